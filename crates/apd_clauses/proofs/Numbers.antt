-- The clauses of a predicate, and their numbers.
use Rattle.std.proofs.Common.{◌≡◌, ℕ, zero, suc, ◌+◌, List, [], ◌∷◌, length, refl, ◌∙◌, ap, arith, Bool, true, false, Some}
use Rattle.std.specs.Prelude.{if◌then◌else◌, slice_get}
use Rattle.apd_term.specs.declared.term.Pred.{Pred}
use Rattle.apd_term.specs.declared.tuple.Tuple.{Tuple}
use Rattle.apd_clauses.specs.Clauses.{clauses_from, is_for, numbers_from, tuples_of}
use Rattle.apd_clauses.specs.declared.clause.Clause.{Clause}

-- as many clauses as numbers
pub same_count : (n : ℕ) (p : Pred) (cs : List Clause) → length (clauses_from n p (tuples_of cs)) ≡ length (numbers_from n p cs)
same_count n p [] = refl
same_count n p (c ∷ cs) = either (is_for p c) (same_count (n + 1) p cs)
  where
    either : (b : Bool) → length (clauses_from (n + 1) p (tuples_of cs)) ≡ length (numbers_from (n + 1) p cs)
        → length (if b then (n, c.tuple) ∷ clauses_from (n + 1) p (tuples_of cs) else clauses_from (n + 1) p (tuples_of cs))
        ≡ length (if b then n ∷ numbers_from (n + 1) p cs else numbers_from (n + 1) p cs)
    either true later = omega (arith, later)
    either false later = later

-- a number in its place: the clause that has it, at the same place among the predicate's
pub record IsNumberOf (n : ℕ) (xs : List (ℕ × Tuple)) (cs : List Clause) (at k : ℕ) : Type 0 where
  pub clause : Clause
  pub index : ℕ
  pub number : k ≡ n + index
  pub there : slice_get cs index ≡ Some clause
  pub among : slice_get xs at ≡ Some (k, clause.tuple)

-- the same with one clause more in front
behind : (n : ℕ) (c : Clause) (xs ys : List (ℕ × Tuple)) (cs : List Clause) (at at' k : ℕ) → IsNumberOf (n + 1) xs cs at k → slice_get ys at' ≡ slice_get xs at → IsNumberOf n ys (c ∷ cs) at' k
behind n c xs ys cs at at' k h same = record { clause = h.clause; index = suc h.index; number = omega (arith, h.number); there = h.there; among = same ∙ h.among }

pub number_of : (n : ℕ) (p : Pred) (cs : List Clause) (at k : ℕ) → slice_get (numbers_from n p cs) at ≡ Some k → IsNumberOf n (clauses_from n p (tuples_of cs)) cs at k
number_of n p [] at k e = cc
number_of n p (c ∷ cs) at k e = either (is_for p c) at e (λ at' e'. number_of (n + 1) p cs at' k e')
  where
    either : (b : Bool) (at : ℕ) → slice_get (if b then n ∷ numbers_from (n + 1) p cs else numbers_from (n + 1) p cs) at ≡ Some k
        → ((at' : ℕ) → slice_get (numbers_from (n + 1) p cs) at' ≡ Some k → IsNumberOf (n + 1) (clauses_from (n + 1) p (tuples_of cs)) cs at' k)
        → IsNumberOf n (if b then (n, c.tuple) ∷ clauses_from (n + 1) p (tuples_of cs) else clauses_from (n + 1) p (tuples_of cs)) (c ∷ cs) at k
    either true zero e' later =
        let same : n ≡ k = cc in
        record { clause = c; index = 0; number = omega (arith, same); there = refl; among = ap (λ (j : ℕ). Some (j, c.tuple)) same }
    either true (suc at) e' later = behind n c (clauses_from (n + 1) p (tuples_of cs)) ((n, c.tuple) ∷ clauses_from (n + 1) p (tuples_of cs)) cs at (suc at) k (later at e') refl
    either false at e' later = behind n c (clauses_from (n + 1) p (tuples_of cs)) (clauses_from (n + 1) p (tuples_of cs)) cs at at k (later at e') refl

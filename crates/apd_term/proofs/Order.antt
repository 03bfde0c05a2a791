-- An ordered set of variables as the order by first appearance.
use Rattle.std.proofs.Common.{◌≡◌, ℕ, ◌+◌, ◌≤◌, Bool, true, false, cond, not, List, [], ◌∷◌, ◌++◌, ◌||◌, ◌==◌, length, position, nat_eq, nat_lt, Some, None, unwrap_or, if◌then◌else◌, refl, sym, ap, ◌∙◌, arith}
use Rattle.std.specs.List.{list_any, position_or_len}
use Rattle.std.specs.Cmp.{nat_eq_equiv}
use Rattle.std.proofs.lemmas.Bool.Decides.{nat_tests}
use Rattle.indexmap.specs.IndexSet.{insert_key}
use Rattle.apd_term.specs.Canonical.{with_new, place_of}

same_test : (ks : List ℕ) (v : ℕ) → list_any (nat_eq v) ks ≡ list_any (λ w. w == v) ks
same_test [] v = refl
same_test (k ∷ ks) v = (λ i. nat_eq_equiv.symm v k i || same_test ks v i)

-- a variable that is put in
pub with_new-insert_key : (ks : List ℕ) (v : ℕ) → insert_key nat_eq ks v ≡ with_new ks v
with_new-insert_key ks v = ap (λ b. if b then ks else ks ++ v ∷ []) (same_test ks v)

place_of-position : (ks : List ℕ) (v : ℕ) → place_of ks v ≡ position_or_len (nat_eq v) ks + 1
place_of-position [] v = refl
place_of-position (k ∷ ks) v = by (nat_eq v k) (k == v) (nat_eq_equiv.symm v k) (place_of-position ks v)
  where
    by : (a b : Bool) → a ≡ b → place_of ks v ≡ position_or_len (nat_eq v) ks + 1
        → (if b then 1 else place_of ks v + 1) ≡ cond (not a) (1 + position_or_len (nat_eq v) ks) 0 + 1
    by true true e h = refl
    by false false e h = omega (arith, h)
    by true false e h = (cc)
    by false true e h = (cc)

position_most : (ks : List ℕ) (v : ℕ) → position_or_len (nat_eq v) ks ≤ length ks
position_most [] v = omega arith
position_most (k ∷ ks) v = by (nat_eq v k) (position_most ks v)
  where
    by : (a : Bool) → position_or_len (nat_eq v) ks ≤ length ks → cond (not a) (1 + position_or_len (nat_eq v) ks) 0 ≤ length (k ∷ ks)
    by true h = omega arith
    by false h = omega (arith, h)

-- the place that was found, or the number of variables where there is none
pub place_of-found : (ks : List ℕ) (v : ℕ) → unwrap_or (position (nat_eq v) ks) (length ks) + 1 ≡ place_of ks v
place_of-found ks v = by (position_or_len (nat_eq v) ks) (position_most ks v) ∙ sym (place_of-position ks v)
  where
    at : (b : Bool) (p n : ℕ) → nat_lt p n ≡ b → p ≤ n → unwrap_or (cond b (Some p) None) n + 1 ≡ p + 1
    at true p n e l = refl
    at false p n e l = grind (arith, nat_tests)

    by : (p : ℕ) → p ≤ length ks → unwrap_or (cond (nat_lt p (length ks)) (Some p) None) (length ks) + 1 ≡ p + 1
    by p l = at (nat_lt p (length ks)) p (length ks) refl l

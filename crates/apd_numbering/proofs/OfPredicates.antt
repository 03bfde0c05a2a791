-- Predicates with renumbered names are of the same kinds.
use Rattle.std.proofs.Common.{◌≡◌, ℕ, ◌+◌, ◌<◌, ◌&&◌, Bool, true, false, List, [], ◌∷◌, map, refl, ◌∙◌, ap, arith, Option, None, Some}
use Rattle.std.specs.Prelude.{◌==◌, if◌then◌else◌, nat_lt}
use Rattle.std.specs.List.{list_any}
use Rattle.std.specs.Option.{option_map}
use Rattle.std.proofs.lemmas.Bool.{and_parts}
use Rattle.std.proofs.lemmas.Bool.Decides.{Decides-ltb}
use Rattle.apd_term.specs.Term.{Term, predicate_of}
use Rattle.apd_term.specs.declared.standard.TheConstants as standard
use Rattle.apd_term.specs.declared.term.Pred.{Pred}
use Rattle.apd_term.specs.declared.tuple.Tuple.{Tuple}
use Rattle.apd_clauses.specs.Clauses.{clauses_from, clauses_by, clauses_for, is_pred, same_pred}
use Rattle.apd_clauses.specs.Kinds.{impure, control_of, other_kind, kind_by, kind_of, IsUserAtom}
use Rattle.apd_arith.specs.Builtins.{builtin_of}
use Rattle.apd_clauses.specs.declared.kinds.Kind.TheVariants as kinds
use Rattle.apd_numbering.specs.Renumbering.{Renumbering, renumbered, renumbered_pred, renumbered_tuple, renumbered_tuples}
use Rattle.apd_numbering.proofs.Terms.{predicate-renumbered}
use Rattle.apd_numbering.proofs.Tests.{test-same, test-standard}
use Rattle.apd_numbering.proofs.Values.{builtin_of-renumbered}

-- the names of the predicates are standard
abbrev are_standard : List Pred → Bool
are_standard [] = true
are_standard (q ∷ qs) = nat_lt q.name.0 132 && are_standard qs

impure-standard : are_standard impure ≡ true
unfolding impure
impure-standard = refl

module _ (n : ℕ) (x : Renumbering n) where
  pub same_pred-renumbered : (p q : Pred) → same_pred (renumbered_pred x.to p) (renumbered_pred x.to q) ≡ same_pred p q
  same_pred-renumbered p q = ap (λ b. b && (p.arity == q.arity)) (test-same n x p.name.0 q.name.0)

  pub same_standard : (p q : Pred) → q.name.0 < 132 → same_pred (renumbered_pred x.to p) q ≡ same_pred p q
  same_standard p q l = ap (λ b. b && (p.arity == q.arity)) (test-standard n x p.name.0 q.name.0 l)

  any_standard : (p : Pred) (qs : List Pred) → are_standard qs ≡ true → list_any (same_pred (renumbered_pred x.to p)) qs ≡ list_any (same_pred p) qs
  any_standard p [] e = refl
  any_standard p (q ∷ qs) e =
      let k = and_parts (nat_lt q.name.0 132) (are_standard qs) e in
      rw (same_standard p q ((Decides-ltb q.name.0 132).0 k.0), any_standard p qs k.1) refl

  control-renumbered : (p : Pred) → control_of (renumbered_pred x.to p) ≡ control_of p
  control-renumbered p =
      rw (
        test-standard n x p.name.0 standard.COMMA.0 (omega arith),
        test-standard n x p.name.0 standard.CUT.0 (omega arith),
        test-standard n x p.name.0 standard.NOT_PROVABLE.0 (omega arith),
        test-standard n x p.name.0 standard.NOT.0 (omega arith),
        test-standard n x p.name.0 standard.SEMICOLON.0 (omega arith),
        test-standard n x p.name.0 standard.ARROW.0 (omega arith),
      ) refl

  pub kind-renumbered : (p : Pred) → kind_of (renumbered_pred x.to p) ≡ kind_of p
  kind-renumbered p =
      ap (λ o. kind_by o (control_of (renumbered_pred x.to p)) (other_kind (renumbered_pred x.to p))) (builtin_of-renumbered n x p)
      ∙ ap (λ o. kind_by (builtin_of p) o (other_kind (renumbered_pred x.to p))) (control-renumbered p)
      ∙ ap (λ b. kind_by (builtin_of p) (control_of p) (if b then kinds.Impure else kinds.User)) (any_standard p impure impure-standard)

  pub kind_of_atom-renumbered : (t : Term) → option_map kind_of (predicate_of (renumbered x.to t)) ≡ option_map kind_of (predicate_of t)
  kind_of_atom-renumbered t = ap (option_map kind_of) (predicate-renumbered x.to t) ∙ by (predicate_of t)
    where
      by : (o : Option Pred) → option_map kind_of (option_map (renumbered_pred x.to) o) ≡ option_map kind_of o
      by None = refl
      by (Some p) = ap Some (kind-renumbered p)

  pub IsUserAtom-renumbered : (t : Term) → IsUserAtom t → IsUserAtom (renumbered x.to t)
  IsUserAtom-renumbered t h = kind_of_atom-renumbered t ∙ h

  pub is_pred-renumbered : (o : Option Pred) (p : Pred) → is_pred (option_map (renumbered_pred x.to) o) (renumbered_pred x.to p) ≡ is_pred o p
  is_pred-renumbered None p = refl
  is_pred-renumbered (Some q) p = same_pred-renumbered q p

  pub is_standard-renumbered : (o : Option Pred) (p : Pred) → p.name.0 < 132 → is_pred (option_map (renumbered_pred x.to) o) p ≡ is_pred o p
  is_standard-renumbered None p l = refl
  is_standard-renumbered (Some q) p l = same_standard q p l

  -- the clauses of a predicate
  pub clauses-renumbered : (i : ℕ) (p : Pred) (ts : List Tuple) → clauses_from i (renumbered_pred x.to p) (renumbered_tuples x.to ts) ≡ map (λ (c : ℕ × Tuple). (c.0, renumbered_tuple x.to c.1)) (clauses_from i p ts)
  clauses-renumbered i p [] = refl
  clauses-renumbered i p (t ∷ ts) =
      ap (λ b. if b then (i, renumbered_tuple x.to t) ∷ clauses_from (i + 1) (renumbered_pred x.to p) (renumbered_tuples x.to ts) else clauses_from (i + 1) (renumbered_pred x.to p) (renumbered_tuples x.to ts))
      (ap (λ o. is_pred o (renumbered_pred x.to p)) (predicate-renumbered x.to t.head) ∙ is_pred-renumbered (predicate_of t.head) p)
      ∙ by (is_pred (predicate_of t.head) p) (clauses-renumbered (i + 1) p ts)
    where
      by : (b : Bool) → clauses_from (i + 1) (renumbered_pred x.to p) (renumbered_tuples x.to ts) ≡ map (λ (c : ℕ × Tuple). (c.0, renumbered_tuple x.to c.1)) (clauses_from (i + 1) p ts)
          → (if b then (i, renumbered_tuple x.to t) ∷ clauses_from (i + 1) (renumbered_pred x.to p) (renumbered_tuples x.to ts) else clauses_from (i + 1) (renumbered_pred x.to p) (renumbered_tuples x.to ts))
          ≡ map (λ (c : ℕ × Tuple). (c.0, renumbered_tuple x.to c.1)) (if b then (i, t) ∷ clauses_from (i + 1) p ts else clauses_from (i + 1) p ts)
      by true e = ap (λ cs. (i, renumbered_tuple x.to t) ∷ cs) e
      by false e = e

  pub clauses_for-renumbered : (t : Term) (ts : List Tuple) → clauses_for (renumbered x.to t) (renumbered_tuples x.to ts) ≡ map (λ (c : ℕ × Tuple). (c.0, renumbered_tuple x.to c.1)) (clauses_for t ts)
  clauses_for-renumbered t ts = ap (λ o. clauses_by o (renumbered_tuples x.to ts)) (predicate-renumbered x.to t) ∙ by (predicate_of t)
    where
      by : (o : Option Pred) → clauses_by (option_map (renumbered_pred x.to) o) (renumbered_tuples x.to ts) ≡ map (λ (c : ℕ × Tuple). (c.0, renumbered_tuple x.to c.1)) (clauses_by o ts)
      by None = refl
      by (Some p) = clauses-renumbered 1 p ts

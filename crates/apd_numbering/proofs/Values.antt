-- Terms with renumbered names have the same values, and are of the same kinds.
use Rattle.std.proofs.Common.{◌≡◌, ℕ, List, [], ◌∷◌, refl, ◌∙◌, ap, arith, Option, None, Some}
use Rattle.std.specs.Option.{option_map, option_and_then}
use Rattle.apd_term.specs.Term.{Term, Terms, variable, integer, compound, none, more, predicate_of}
use Rattle.apd_term.specs.declared.standard.TheConstants as standard
use Rattle.apd_term.specs.declared.term.NameId.{NameId}
use Rattle.apd_term.specs.declared.term.Pred.{Pred}
use Rattle.apd_arith.specs.Builtins.{builtin_of_none, builtin_of_two, builtin_of, builtin_of_atom}
use Rattle.apd_arith.specs.Operations.{unary_operation, binary_operation}
use Rattle.apd_arith.specs.Value.{Value, of_one_by, of_two_by, value_of, value, values}
use Rattle.apd_numbering.specs.Renumbering.{Renumbering, renumbered, renumbered_all, renumbered_name, renumbered_pred}
use Rattle.apd_numbering.proofs.Terms.{predicate-renumbered}
use Rattle.apd_numbering.proofs.Tests.{test-standard}

module _ (n : ℕ) (x : Renumbering n) where
  unary-renumbered : (f : NameId) → unary_operation (renumbered_name x.to f) ≡ unary_operation f
  unary-renumbered f = rw (test-standard n x f.0 standard.MINUS.0 (omega arith), test-standard n x f.0 standard.ABS.0 (omega arith)) refl

  binary-renumbered : (f : NameId) → binary_operation (renumbered_name x.to f) ≡ binary_operation f
  binary-renumbered f =
      rw (
        test-standard n x f.0 standard.PLUS.0 (omega arith),
        test-standard n x f.0 standard.MINUS.0 (omega arith),
        test-standard n x f.0 standard.TIMES.0 (omega arith),
        test-standard n x f.0 standard.QUOTIENT.0 (omega arith),
        test-standard n x f.0 standard.MOD.0 (omega arith),
        test-standard n x f.0 standard.REM.0 (omega arith),
        test-standard n x f.0 standard.MIN.0 (omega arith),
        test-standard n x f.0 standard.MAX.0 (omega arith),
      ) refl

  value_of-renumbered : (f : NameId) (vs : List Value) → value_of (renumbered_name x.to f) vs ≡ value_of f vs
  value_of-renumbered f [] = refl
  value_of-renumbered f (u ∷ []) = ap (λ o. of_one_by o u) (unary-renumbered f)
  value_of-renumbered f (u ∷ v ∷ []) = ap (λ o. of_two_by o u v) (binary-renumbered f)
  value_of-renumbered f (u ∷ v ∷ w ∷ vs) = refl

  mutual
    pub value-renumbered : (t : Term) → value (renumbered x.to t) ≡ value t
    value-renumbered (variable v) = refl
    value-renumbered (integer i) = refl
    value-renumbered (compound f ts) = ap (value_of (renumbered_name x.to f)) (values-renumbered ts) ∙ value_of-renumbered f (values ts)

    values-renumbered : (ts : Terms) → values (renumbered_all x.to ts) ≡ values ts
    values-renumbered none = refl
    values-renumbered (more t ts) = rw (value-renumbered t, values-renumbered ts) refl

  none-renumbered : (f : NameId) → builtin_of_none (renumbered_name x.to f) ≡ builtin_of_none f
  none-renumbered f = rw (test-standard n x f.0 standard.TRUE.0 (omega arith), test-standard n x f.0 standard.FAIL.0 (omega arith)) refl

  two-renumbered : (f : NameId) → builtin_of_two (renumbered_name x.to f) ≡ builtin_of_two f
  two-renumbered f =
      rw (
        test-standard n x f.0 standard.UNIFY.0 (omega arith),
        test-standard n x f.0 standard.IS.0 (omega arith),
        test-standard n x f.0 standard.EQUAL.0 (omega arith),
        test-standard n x f.0 standard.DIFFERENT.0 (omega arith),
        test-standard n x f.0 standard.LESS.0 (omega arith),
        test-standard n x f.0 standard.LESS_EQUAL.0 (omega arith),
        test-standard n x f.0 standard.GREATER.0 (omega arith),
        test-standard n x f.0 standard.GREATER_EQUAL.0 (omega arith),
      ) refl

  pub builtin_of-renumbered : (p : Pred) → builtin_of (renumbered_pred x.to p) ≡ builtin_of p
  builtin_of-renumbered p = rw (none-renumbered p.name, two-renumbered p.name) refl

  pub builtin-renumbered : (t : Term) → builtin_of_atom (renumbered x.to t) ≡ builtin_of_atom t
  builtin-renumbered t = ap (option_and_then builtin_of) (predicate-renumbered x.to t) ∙ by (predicate_of t)
    where
      by : (o : Option Pred) → option_and_then builtin_of (option_map (renumbered_pred x.to) o) ≡ option_and_then builtin_of o
      by None = refl
      by (Some p) = builtin_of-renumbered p

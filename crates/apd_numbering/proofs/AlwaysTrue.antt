-- Atoms of built-in goals with renumbered names are true alike.
use Rattle.std.proofs.Common.{◌≡◌, ℕ, List, [], ◌∷◌, refl, sym, ◌∙◌, ap, subst, Option, None, Some, Ok, Err}
use Rattle.apd_term.specs.Term.{Term, integer, apply, arguments, variables, IsGround}
use Rattle.apd_term.proofs.Applying.{apply-same}
use Rattle.apd_arith.specs.Builtins.{builtin_of_atom}
use Rattle.apd_arith.specs.Truth.{compared, IsTrueAtom}
use Rattle.apd_arith.specs.Truths.{is_value, compare_so, is_true_goal, is_true_by, is_true_atom}
use Rattle.apd_arith.specs.Value.{Value, value}
use Rattle.apd_arith.specs.declared.comparison.Comparison.{Comparison}
use Rattle.apd_arith.specs.declared.comparison.Comparison.TheVariants as compares
use Rattle.apd_arith.specs.declared.goal.Builtin.{Builtin}
use Rattle.apd_arith.specs.declared.goal.Builtin.TheVariants as goals
use Rattle.apd_arith.proofs.Tests.{is_true-is}
use Rattle.apd_record.specs.Sound.{IsAlwaysTrue}
use Rattle.apd_numbering.specs.Renumbering.{Renumbering, renumbered, renumbered_list}
use Rattle.apd_numbering.proofs.Terms.{renumbered-apply, renumbered-back, variables-renumbered, arguments-renumbered}
use Rattle.apd_numbering.proofs.Tests.{opposite_of, same_term-renumbered}
use Rattle.apd_numbering.proofs.Values.{value-renumbered, builtin-renumbered}

module _ (n : ℕ) (x : Renumbering n) where
  is_value-renumbered : (a : Term) (v : Value) → is_value (renumbered x.to a) v ≡ is_value a v
  is_value-renumbered a (Ok i) = same_term-renumbered n x a (integer i)
  is_value-renumbered a (Err fault) = refl

  compare-renumbered : (c : Comparison) (a b : Term) → compare_so (compared c (value (renumbered x.to a)) (value (renumbered x.to b))) ≡ compare_so (compared c (value a) (value b))
  compare-renumbered c a b = rw (value-renumbered n x a, value-renumbered n x b) refl

  goal-renumbered : (goal : Builtin) (ts : List Term) → is_true_goal goal (renumbered_list x.to ts) ≡ is_true_goal goal ts
  goal-renumbered goals.True [] = refl
  goal-renumbered goals.True (a ∷ ts) = refl
  goal-renumbered goals.Fail ts = refl
  goal-renumbered goals.Unify [] = refl
  goal-renumbered goals.Unify (a ∷ []) = refl
  goal-renumbered goals.Unify (a ∷ b ∷ []) = same_term-renumbered n x a b
  goal-renumbered goals.Unify (a ∷ b ∷ c ∷ ts) = refl
  goal-renumbered goals.Is [] = refl
  goal-renumbered goals.Is (a ∷ []) = refl
  goal-renumbered goals.Is (a ∷ b ∷ []) = ap (is_value (renumbered x.to a)) (value-renumbered n x b) ∙ is_value-renumbered a (value b)
  goal-renumbered goals.Is (a ∷ b ∷ c ∷ ts) = refl
  goal-renumbered goals.Equal [] = refl
  goal-renumbered goals.Equal (a ∷ []) = refl
  goal-renumbered goals.Equal (a ∷ b ∷ []) = compare-renumbered compares.Equal a b
  goal-renumbered goals.Equal (a ∷ b ∷ c ∷ ts) = refl
  goal-renumbered goals.Different [] = refl
  goal-renumbered goals.Different (a ∷ []) = refl
  goal-renumbered goals.Different (a ∷ b ∷ []) = compare-renumbered compares.Different a b
  goal-renumbered goals.Different (a ∷ b ∷ c ∷ ts) = refl
  goal-renumbered goals.Less [] = refl
  goal-renumbered goals.Less (a ∷ []) = refl
  goal-renumbered goals.Less (a ∷ b ∷ []) = compare-renumbered compares.Less a b
  goal-renumbered goals.Less (a ∷ b ∷ c ∷ ts) = refl
  goal-renumbered goals.LessEqual [] = refl
  goal-renumbered goals.LessEqual (a ∷ []) = refl
  goal-renumbered goals.LessEqual (a ∷ b ∷ []) = compare-renumbered compares.LessEqual a b
  goal-renumbered goals.LessEqual (a ∷ b ∷ c ∷ ts) = refl
  goal-renumbered goals.Greater [] = refl
  goal-renumbered goals.Greater (a ∷ []) = refl
  goal-renumbered goals.Greater (a ∷ b ∷ []) = compare-renumbered compares.Greater a b
  goal-renumbered goals.Greater (a ∷ b ∷ c ∷ ts) = refl
  goal-renumbered goals.GreaterEqual [] = refl
  goal-renumbered goals.GreaterEqual (a ∷ []) = refl
  goal-renumbered goals.GreaterEqual (a ∷ b ∷ []) = compare-renumbered compares.GreaterEqual a b
  goal-renumbered goals.GreaterEqual (a ∷ b ∷ c ∷ ts) = refl

  atom-renumbered : (a : Term) → is_true_atom (renumbered x.to a) ≡ is_true_atom a
  atom-renumbered a = rw (builtin-renumbered n x a, arguments-renumbered x.to a) (by (builtin_of_atom a))
    where
      by : (o : Option Builtin) → is_true_by o (renumbered_list x.to (arguments a)) ≡ is_true_by o (arguments a)
      by None = refl
      by (Some goal) = goal-renumbered goal (arguments a)

  pub true-renumbered : (a : Term) → IsTrueAtom a → IsTrueAtom (renumbered x.to a)
  true-renumbered a h = (is_true-is (renumbered x.to a)).0 (atom-renumbered a ∙ (is_true-is a).1 h)

  pub ground-renumbered : (a : Term) → IsGround a → IsGround (renumbered x.to a)
  ground-renumbered a h = variables-renumbered x.to a ∙ h

  -- what stands for variables may be renumbered back
  substituted : (s : ℕ → Term) (a : Term) → apply s (renumbered x.to a) ≡ renumbered x.to (apply (λ v. renumbered x.back (s v)) a)
  substituted s a =
      apply-same s (λ v. renumbered x.to (renumbered x.back (s v))) (λ v. sym (renumbered-back x.back x.to x.there (s v))) (renumbered x.to a)
      ∙ sym (renumbered-apply x.to (λ v. renumbered x.back (s v)) a)

  pub always-renumbered : (a : Term) → IsAlwaysTrue a → IsAlwaysTrue (renumbered x.to a)
  always-renumbered a h s ground =
      let k : ℕ → Term = λ v. renumbered x.back (s v) in
      let plain : IsGround (apply k a) = sym (variables-renumbered x.to (apply k a)) ∙ ap variables (sym (substituted s a)) ∙ ground in
      subst IsTrueAtom (sym (substituted s a)) (true-renumbered (apply k a) (h k plain))

-- and back
pub true-back : (n : ℕ) (x : Renumbering n) (a : Term) → IsTrueAtom (renumbered x.to a) → IsTrueAtom a
true-back n x a h = subst IsTrueAtom (renumbered-back x.to x.back x.again a) (true-renumbered n (opposite_of n x) (renumbered x.to a) h)

-- What comes of a goal, by the program's unifier.
use Rattle.std.proofs.Common.{◌≡◌, inl, inr, ℕ, List, [], ◌∷◌, ◌++◌, refl, sym, subst, Bool, true, false, Option, Some, None, Result, Ok, Err}
use Rattle.apd_term.specs.Term.{Term, Terms, variable, integer, compound, none, more, list_of, variables, variables_all, IsAmong}
use Rattle.apd_term.specs.Substitution.{term_for}
use Rattle.apd_term.proofs.Among.{IsAmong-append, IsAmong-left, IsAmong-right}
use Rattle.apd_arith.specs.declared.fault.ArithFault.{ArithFault}
use Rattle.apd_arith.specs.declared.goal.Builtin.{Builtin}
use Rattle.apd_arith.specs.declared.goal.Builtin.TheVariants.{True, Fail, Unify, Is, Equal, Different, Less, LessEqual, Greater, GreaterEqual}
use Rattle.apd_arith.specs.declared.comparison.Comparison.TheVariants as comparisons
use Rattle.apd_arith.specs.Builtins.{builtin_of_atom}
use Rattle.apd_arith.specs.Truth.{compared}
use Rattle.apd_arith.specs.Value.{Value, value}
use Rattle.apd_unify.specs.Unifier.{IsAnswer, OccursIn}
use Rattle.apd_unify.specs.Textbook.{unifier_of}
use Rattle.apd_unify.proofs.Textbook.{unifier_of-right}
use Rattle.apd_term.proofs.Applying.{apply-variable}
use Rattle.apd_trace.specs.Frames.{next_goal, under, variables_of_frames}
use Rattle.apd_trace.specs.BuiltIn.{outcome_of_is, outcome_of_comparison, outcome_of_none, outcome_of_two, outcome_of, outcome_by, outcome, built, solved_or, solution_by, solution}
use Rattle.apd_trace.specs.declared.frame.Frame.{Frame}
use Rattle.apd_trace.specs.declared.frame.Called.{Called}
use Rattle.apd_trace.specs.declared.frame.Outcome.{Outcome}
use Rattle.apd_trace.specs.declared.frame.Outcome.TheVariants.{User, Faults, Fails, Succeeds, Equates}
use Rattle.apd_trace.proofs.Applied.{apply_frames-variable}
use Rattle.apd_trace.proofs.BuiltIn.{alike_or}
use Rattle.apd_trace.proofs.Entered.{renamed_under}
use Rattle.apd_trace.proofs.Renamed.{renamed_self}
use Rattle.apd_by_definition.specs.Attempts.{attempt_of, solution_in, IsAttempt, IsAttemptBelow}
use Rattle.apd_by_definition.specs.declared.engine.goals.Attempt.{Attempt}
use Rattle.apd_by_definition.proofs.Below.{IsBelow-apply, term_for-below, goal_below}
use Rattle.apd_trace.specs.Renaming.{AreAlike, IsBelow}

-- the terms that are equated have variables of the goal only
abbrev IsWithin : List ℕ → Outcome → Type 0
IsWithin vs User = Unit {0}
IsWithin vs (Faults e) = Unit {0}
IsWithin vs Fails = Unit {0}
IsWithin vs Succeeds = Unit {0}
IsWithin vs (Equates l r) = (v : ℕ) → OccursIn l r v → IsAmong vs v

comparison_within : (vs : List ℕ) (r : Result Bool ArithFault) → IsWithin vs (outcome_of_comparison r)
comparison_within vs (Err fault) = tt
comparison_within vs (Ok true) = tt
comparison_within vs (Ok false) = tt

is_within : (a b : Term) (x : Value) → IsWithin (variables a ++ (variables b ++ [])) (outcome_of_is a x)
is_within a b (Err fault) = tt
is_within a b (Ok i) = λ v occurs. IsAmong-left (variables a) (variables b ++ []) v (elim (IsAmong-append (variables a) [] v occurs) [ inl y ↦ y | inr y ↦ absurd y ])

equated_within : (a b : Term) (v : ℕ) → IsAmong (variables a ++ variables b) v → IsAmong (variables a ++ (variables b ++ [])) v
equated_within a b v occurs = elim (IsAmong-append (variables a) (variables b) v occurs) [
  | inl y ↦ IsAmong-left (variables a) (variables b ++ []) v y
  | inr y ↦ IsAmong-right (variables a) (variables b ++ []) v (IsAmong-left (variables b) [] v y)
]

two_within : (goal : Builtin) (a b : Term) → IsWithin (variables a ++ (variables b ++ [])) (outcome_of_two goal a b)
two_within True a b = tt
two_within Fail a b = tt
two_within Unify a b = equated_within a b
two_within Is a b = is_within a b (value b)
two_within Equal a b = comparison_within _ (compared comparisons.Equal (value a) (value b))
two_within Different a b = comparison_within _ (compared comparisons.Different (value a) (value b))
two_within Less a b = comparison_within _ (compared comparisons.Less (value a) (value b))
two_within LessEqual a b = comparison_within _ (compared comparisons.LessEqual (value a) (value b))
two_within Greater a b = comparison_within _ (compared comparisons.Greater (value a) (value b))
two_within GreaterEqual a b = comparison_within _ (compared comparisons.GreaterEqual (value a) (value b))

none_within : (vs : List ℕ) (goal : Builtin) → IsWithin vs (outcome_of_none goal)
none_within vs goal = elim goal as (λ k. IsWithin vs (outcome_of_none k)) [ True ↦ tt | Fail ↦ tt | Unify ↦ tt | Is ↦ tt | Equal ↦ tt | Different ↦ tt | Less ↦ tt | LessEqual ↦ tt | Greater ↦ tt | GreaterEqual ↦ tt ]

goal_within : (goal : Builtin) (ts : Terms) → IsWithin (variables_all ts) (outcome_of goal (list_of ts))
goal_within goal none = none_within [] goal
goal_within goal (more a none) = tt
goal_within goal (more a (more b none)) = two_within goal a b
goal_within goal (more a (more b (more c ts))) = tt

by_within : (o : Option Builtin) (ts : Terms) → IsWithin (variables_all ts) (outcome_by o (list_of ts))
by_within None ts = tt
by_within (Some goal) ts = goal_within goal ts

outcome_within : (a : Term) → IsWithin (variables a) (outcome a)
unfolding outcome
outcome_within (variable v) = tt
outcome_within (integer i) = tt
outcome_within (compound f ts) = by_within (builtin_of_atom (compound f ts)) ts

-- what an attempt at the goal a of the frames F came to
module _ (F : List Frame) (g : Called) (m : ℕ) (a : Term) (o : Outcome) (goal : next_goal F ≡ Some a) (is : o ≡ outcome a) where
  front_below : (n : ℕ) → IsBelow n F → IsBelow n (built g a m ∷ F)
  front_below n below v occurs = elim (IsAmong-append (variables a ++ []) (variables_of_frames F) v occurs) [ inl y ↦ goal_below n F a goal below v (nothing_more v y) | inr y ↦ below v y ]
    where
      nothing_more : (v : ℕ) → IsAmong (variables a ++ []) v → IsAmong (variables a) v
      nothing_more v occurs = elim (IsAmong-append (variables a) [] v occurs) [ inl y ↦ y | inr y ↦ absurd y ]

  equated_alike : (l r : Term) (x : Option (List (ℕ × Term))) → IsAnswer l r x → AreAlike (solution_by (Equates l r) a F g m) (solution_in (attempt_of (under x (built g a m ∷ F))))
  equated_alike l r x answer = at x (alike_or (under (unifier_of l r) H) (under x H)
      (renamed_under variable variable l r l r H H (apply-variable l) (apply-variable r) (apply_frames-variable H) (apply-variable l) (apply-variable r) (apply_frames-variable H) (unifier_of l r) x (unifier_of-right l r) answer))
    where
      H : List Frame
      H = built g a m ∷ F

      at : (y : Option (List (ℕ × Term))) → AreAlike (solution_by (Equates l r) a F g m) (solved_or (under y H)) → AreAlike (solution_by (Equates l r) a F g m) (solution_in (attempt_of (under y H)))
      at None h = h
      at (Some s) h = h

  equated_below : (l r : Term) (x : Option (List (ℕ × Term))) → IsAnswer l r x → IsWithin (variables a) (Equates l r) → (n : ℕ) → IsBelow n F → IsAttemptBelow n (attempt_of (under x (built g a m ∷ F)))
  equated_below l r None answer inside n below = tt
  equated_below l r (Some s) answer inside n below =
      IsBelow-apply n (term_for s) (built g a m ∷ F) (front_below n below) (term_for-below n s l r answer.brings (λ v occurs. goal_below n F a goal below v (inside v occurs)))

  alike_by : (p : Outcome) (t : Attempt) → IsAttempt p a F g m t → AreAlike (solution_by p a F g m) (solution_in t)
  alike_by User t h = rw h tt
  alike_by (Faults e) t h = rw h refl
  alike_by Fails t h = rw h tt
  alike_by Succeeds t h = rw h (renamed_self (built g a m ∷ F))
  alike_by (Equates l r) t h = rw (h.2, h.1.2) (equated_alike l r h.1.0 h.1.1)

  below_by : (p : Outcome) (t : Attempt) → IsAttempt p a F g m t → IsWithin (variables a) p → (n : ℕ) → IsBelow n F → IsAttemptBelow n t
  below_by User t h inside n below = rw h tt
  below_by (Faults e) t h inside n below = rw h tt
  below_by Fails t h inside n below = rw h tt
  below_by Succeeds t h inside n below = rw h (front_below n below)
  below_by (Equates l r) t h inside n below = rw (h.2, h.1.2) (equated_below l r h.1.0 h.1.1 inside n below)

  pub attempt_alike : (t : Attempt) → IsAttempt o a F g m t → AreAlike (solution F g m) (solution_in t)
  attempt_alike t h = rw goal (subst (λ z. AreAlike (solution_by z a F g m) (solution_in t)) is (alike_by o t h))

  pub attempt_below : (t : Attempt) → IsAttempt o a F g m t → (n : ℕ) → IsBelow n F → IsAttemptBelow n t
  attempt_below t h n below = below_by o t h (subst (IsWithin (variables a)) (sym is) (outcome_within a)) n below

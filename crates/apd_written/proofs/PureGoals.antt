-- Goals of pure Prolog are names with arguments, none is a conjunction, and few of them are a body without a fault.
use Rattle.std.proofs.Common.{◌≡◌, ◌≤◌, inl, Bool, true, false, List, [], ◌∷◌, length, None, refl, sym, ◌∙◌}
use Rattle.std.specs.List.{AllByRecursion}
use Rattle.std.proofs.lemmas.Bool.{true≢false}
use Rattle.apd_clauses.specs.Bodies.{body_fault, first_fault, goal_fault}
use Rattle.apd_clauses.specs.Kinds.{IsPureGoal, IsUserAtom, ◌∕◌, impure, is_pure, kind_of}
use Rattle.apd_clauses.specs.Predicates.{is_pred}
use Rattle.apd_clauses.specs.declared.kinds.Kind.TheVariants as kinds
use Rattle.apd_clauses.proofs.Faults.{fault_of_few, or_none}
use Rattle.apd_clauses.proofs.Pure.{no_goal, pure_by}
use Rattle.apd_clauses.proofs.Placing.{own_predicate}
use Rattle.apd_reading_back.specs.Queries.{IsCompound}
use Rattle.apd_term.specs.Term.{Term, variable, integer, compound, predicate_of}
use Rattle.apd_term.specs.declared.standard.TheConstants.{COMMA, NECK}
use Rattle.apd_term.specs.declared.term.Pred.{Pred}
use Rattle.apd_kept.proofs.Clauses.{goal_clean}
use Rattle.apd_written.specs.Texts.{IsOneGoal}

pub pure-compound : (t : Term) → IsPureGoal t → IsCompound t
pure-compound (variable v) pure = absurd (no_goal (variable v) refl pure)
pure-compound (integer i) pure = absurd (no_goal (integer i) refl pure)
pure-compound (compound f ts) pure = tt

comma_is : is_pure (kind_of (COMMA ∕ 2)) ≡ false
comma_is = refl

neck_is : is_pure (kind_of (NECK ∕ 2)) ≡ false
unfolding impure
neck_is = refl

not_of : (t : Term) (p : Pred) → is_pure (kind_of p) ≡ false → IsPureGoal t → is_pred (predicate_of t) p ≡ false
not_of t p impure pure = by (is_pred (predicate_of t) p) refl
  where
    by : (b : Bool) → is_pred (predicate_of t) p ≡ b → b ≡ false
    by false is = refl
    by true is = absurd (true≢false (sym ((pure_by t p (own_predicate (predicate_of t) p is)).1 pure) ∙ impure))

pub pure-one : (t : Term) → IsPureGoal t → IsOneGoal t
pure-one t pure = not_of t (COMMA ∕ 2) comma_is pure

-- nor is an atom of the program's own a clause with a body
pub own-head : (t : Term) → IsUserAtom t → is_pred (predicate_of t) (NECK ∕ 2) ≡ false
own-head t user = not_of t (NECK ∕ 2) neck_is (inl user)

pub pure-ones : (ts : List Term) → AllByRecursion IsPureGoal ts → AllByRecursion IsOneGoal ts
pure-ones [] pure = tt
pure-ones (t ∷ ts) pure = (pure-one t pure.0, pure-ones ts pure.1)

all_clean : (ts : List Term) → AllByRecursion IsPureGoal ts → first_fault ts ≡ None
all_clean [] pure = refl
all_clean (t ∷ ts) pure = or_none (goal_fault t) (first_fault ts) (goal_clean t pure.0) (all_clean ts pure.1)

pub pure-body : (ts : List Term) → length ts ≤ 64 → AllByRecursion IsPureGoal ts → body_fault ts ≡ None
pure-body ts few pure = sym (fault_of_few ts few) ∙ all_clean ts pure

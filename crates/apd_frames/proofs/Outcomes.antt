-- The outcome of a goal from its arguments.
use Rattle.std.proofs.Common.{◌≡◌, ◌≢◌, List, [], ◌∷◌, length, refl, sym, ◌∙◌, ap, arith, Bool, Some, None, Result, Err}
use Rattle.std.specs.Prelude.{slice_get}
use Rattle.apd_term.specs.Term.{Term, arguments}
use Rattle.apd_causes.specs.declared.run.RunError.{RunError}
use Rattle.apd_arith.specs.declared.fault.ArithFault.{ArithFault}
use Rattle.apd_arith.specs.declared.fault.ArithFault.TheVariants.{Memory}
use Rattle.apd_arith.specs.Value.{Value}
use Rattle.apd_arith.specs.declared.goal.Builtin.{Builtin}
use Rattle.apd_arith.specs.declared.goal.Builtin.TheVariants.{True, Fail, Unify, Is, Equal, Different, Less, LessEqual, Greater, GreaterEqual}
use Rattle.apd_arith.specs.Builtins.{builtin_of_atom}
use Rattle.apd_arith.proofs.Found.{places, places-arguments}
use Rattle.apd_trace.specs.BuiltIn.{error_of, outcome_of_is, outcome_of_comparison, outcome_of_two, outcome_by, outcome}
use Rattle.apd_trace.specs.declared.frame.Outcome.TheVariants.{User, Faults}

two_arguments : (ts : List Term) (a b : Term) → length ts ≡ 2 → slice_get ts 0 ≡ Some a → slice_get ts 1 ≡ Some b → ts ≡ a ∷ b ∷ []
two_arguments [] a b l p q = absurd (omega arith)
two_arguments (x ∷ []) a b l p q = absurd (omega arith)
two_arguments (x ∷ y ∷ []) a b l p q = cc
two_arguments (x ∷ y ∷ z ∷ ts) a b l p q = absurd (omega arith)

no_arguments : (ts : List Term) → length ts ≡ 0 → ts ≡ []
no_arguments [] e = refl
no_arguments (t ∷ ts) e = absurd (omega arith)

pub outcome-user : (t : Term) → None ≡ builtin_of_atom t → User ≡ outcome t
unfolding outcome
outcome-user t e = ap (λ o. outcome_by o (arguments t)) e

pub outcome-none : (t : Term) (goal : Builtin) → Some goal ≡ builtin_of_atom t → places goal ≡ 0 → outcome_by (Some goal) [] ≡ outcome t
unfolding outcome
outcome-none t goal e p =
    let none : arguments t ≡ [] = no_arguments (arguments t) (places-arguments t goal (sym e) ∙ p) in
    ap (outcome_by (Some goal)) (sym none) ∙ ap (λ o. outcome_by o (arguments t)) e

-- a built-in goal that has an argument has two
some_two : (goal : Builtin) (ts : List Term) (a : Term) → length ts ≡ places goal → slice_get ts 0 ≡ Some a → length ts ≡ 2
some_two goal [] a l first = cc
some_two True (t ∷ ts) a l first = absurd (omega arith)
some_two Fail (t ∷ ts) a l first = absurd (omega arith)
some_two Unify (t ∷ ts) a l first = l
some_two Is (t ∷ ts) a l first = l
some_two Equal (t ∷ ts) a l first = l
some_two Different (t ∷ ts) a l first = l
some_two Less (t ∷ ts) a l first = l
some_two LessEqual (t ∷ ts) a l first = l
some_two Greater (t ∷ ts) a l first = l
some_two GreaterEqual (t ∷ ts) a l first = l

pub outcome-two : (t : Term) (goal : Builtin) (a b : Term) → Some goal ≡ builtin_of_atom t → slice_get (arguments t) 0 ≡ Some a → slice_get (arguments t) 1 ≡ Some b → outcome_of_two goal a b ≡ outcome t
unfolding outcome
outcome-two t goal a b e first second =
    let l : length (arguments t) ≡ 2 = some_two goal (arguments t) a (places-arguments t goal (sym e)) first in
    let two : arguments t ≡ a ∷ b ∷ [] = two_arguments (arguments t) a b l first second in
    ap (outcome_by (Some goal)) (sym two) ∙ ap (λ o. outcome_by o (arguments t)) e

pub outcome-of-two : (t : Term) (goal : Builtin) (a b : Term) → Some goal ≡ builtin_of_atom t → arguments t ≡ a ∷ b ∷ [] → outcome_of_two goal a b ≡ outcome t
unfolding outcome
outcome-of-two t goal a b e two = ap (outcome_by (Some goal)) (sym two) ∙ ap (λ o. outcome_by o (arguments t)) e

-- the error of an evaluation that faults
pub outcome-is-faults : (x y : Value) (a : Term) (fault : ArithFault) (e : RunError) → (x ≢ Err Memory → x ≡ y) → x ≡ Err fault → fault ≢ Memory → e ≡ error_of fault → Faults e ≡ outcome_of_is a y
outcome-is-faults x y a fault e same is other error =
    let k : x ≡ y = same (λ m. other (cc)) in
    ap Faults error ∙ ap (outcome_of_is a) (sym is ∙ k)

pub outcome-comparison-faults : (x y : Result Bool ArithFault) (fault : ArithFault) (e : RunError) → (x ≢ Err Memory → x ≡ y) → x ≡ Err fault → fault ≢ Memory → e ≡ error_of fault → Faults e ≡ outcome_of_comparison y
outcome-comparison-faults x y fault e same is other error =
    let k : x ≡ y = same (λ m. other (cc)) in
    ap Faults error ∙ ap outcome_of_comparison (sym is ∙ k)

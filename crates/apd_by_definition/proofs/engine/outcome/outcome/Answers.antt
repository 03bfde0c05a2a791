use Rattle.std.proofs.Common.{◌≡◌, refl, ◌∙◌, subst, Some}
use Rattle.apd_arith.specs.declared.goal.Builtin.TheVariants.{True, Fail}
use Rattle.apd_arith.specs.Builtins.{builtin_of_atom}
use Rattle.std.proofs.lemmas.Result.{IfOk-weaker}
use Rattle.apd_frames.proofs.Outcomes.{outcome-user, outcome-none, outcome-two}
use Rattle.apd_by_definition.proofs.engine.outcome.outcome.Goals as goal

pub returns-in-None : goal.returns-in-None
returns-in-None c = outcome-user c.args.atom.now c.in-None.ensures

pub returns-in-Some-True : goal.returns-in-Some-True
returns-in-Some-True c = outcome-none c.args.atom.now True (subst (λ g. Some g ≡ builtin_of_atom c.args.atom.now) c.in-Some-True.field-0-is c.in-Some-True.ensures) refl

pub returns-in-Some-Fail : goal.returns-in-Some-Fail
returns-in-Some-Fail c = outcome-none c.args.atom.now Fail (subst (λ g. Some g ≡ builtin_of_atom c.args.atom.now) c.in-Some-Fail.field-0-is c.in-Some-Fail.ensures) refl

pub returns-in_ok-right-in-Some : goal.returns-in_ok-right-in-Some
returns-in_ok-right-in-Some c =
    IfOk-weaker c.outcome_of_two.result _ _
    (λ o h. h ∙ outcome-two c.args.atom.now c.in-Some.goal c.in_ok-left-in-Some.left c.in_ok-right-in-Some.right c.in-Some.ensures c.in_ok-left-in-Some.ensures c.in_ok-right-in-Some.ensures)
    c.outcome_of_two.ensures

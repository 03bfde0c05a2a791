use Rattle.std.proofs.Common.{◌≡◌, ◌≢◌, ◌∙◌, ap, sym, rules, w64, FitsSigned, Ok, Err}
use Rattle.std.proofs.lemmas.Int.{to_z-of_z}
use Rattle.apd_term.specs.Term.{integer}
use Rattle.apd_arith.specs.declared.fault.ArithFault.TheVariants.{Memory}
use Rattle.apd_arith.specs.Value.{value}
use Rattle.apd_trace.specs.BuiltIn.{outcome_of_is}
use Rattle.apd_trace.specs.declared.frame.Outcome.TheVariants.{Equates}
use Rattle.apd_frames.proofs.Outcomes.{outcome-is-faults}
use Rattle.apd_by_definition.proofs.engine.outcome.outcome_of_is.Goals as goal

pub returns-in_ok-error_of-in-Err : goal.returns-in_ok-error_of-in-Err
returns-in_ok-error_of-in-Err c =
    outcome-is-faults c.eval.result (value c.args.right.now) c.args.left c.in-Err.fault c.in_ok-error_of-in-Err.field-0 c.eval.ensures c.in-Err.is c.in_ok-error_of-in-Err.ensures.fault c.in_ok-error_of-in-Err.ensures.error

pub returns-in_ok-integer-in-Ok : goal.returns-in_ok-integer-in-Ok
returns-in_ok-integer-in-Ok c =
    let fits : FitsSigned w64 c.in-Ok.i = search rules in
    let other : c.eval.result ≢ Err Memory = λ m. let both : Ok c.in-Ok.i ≡ Err Memory = sym c.in-Ok.is ∙ m in cc in
    ap (λ t. Equates t c.in_ok-integer-in-Ok.field-0) c.left.view_is
    ∙ ap (Equates c.args.left) (c.in_ok-integer-in-Ok.ensures ∙ ap integer (to_z-of_z w64 c.in-Ok.i fits))
    ∙ ap (outcome_of_is c.args.left) (sym c.in-Ok.is ∙ c.eval.ensures other)

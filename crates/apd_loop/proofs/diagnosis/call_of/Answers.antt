use Rattle.std.proofs.Common.{◌∙◌, ap}
use Rattle.std.proofs.lemmas.Result.{IfOk-weaker}
use Rattle.apd_term.specs.Canonical.{canonical}
use Rattle.apd_loop.proofs.Diagnosing.{atom-is}
use Rattle.apd_loop.proofs.diagnosis.call_of.Goals as goal

pub returns : goal.returns
returns c =
    IfOk-weaker c.canonical-form.result _ _
    (λ x h. h ∙ ap canonical (atom-is c.args.recorded.now c.args.box_no c.in_ok-call.call c.requires.from c.requires.to c.in_ok-call.ensures)) c.canonical-form.ensures

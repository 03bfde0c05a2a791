use Rattle.std.proofs.Common.{ap, ◌∙◌}
use Rattle.std.proofs.lemmas.Result.{IfOk-weaker}
use Rattle.apd_console.specs.Lines.{lines_of}
use Rattle.apd_claims.specs.Saying.{claim_by}
use Rattle.apd_claims.proofs.saying.claim_at.Goals as goal

pub returns-clause-claim : goal.returns-clause-claim
returns-clause-claim c = IfOk-weaker c.claim_by.result _ _ (λ claim is n grew reader.
    is n grew reader ∙ ap (claim_by reader c.args.ops.now c.args.place.now.in_group c.args.place.now.line.now (lines_of c.args.place.now.rest.now)) c.in_ok-form.ensures.form)
    c.claim_by.ensures.claim

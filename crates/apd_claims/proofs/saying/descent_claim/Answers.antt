use Rattle.std.proofs.Common.{Some, ap, ◌∙◌}
use Rattle.std.proofs.lemmas.Result.{IfOk-weaker}
use Rattle.apd_text.specs.declared.entry.Entry.TheVariants.{AllDescend}
use Rattle.apd_claims.specs.Claims.{claim_as}
use Rattle.apd_claims.proofs.saying.descent_claim.Goals as goal

pub returns-clause-claim : goal.returns-clause-claim
returns-clause-claim c = IfOk-weaker c.claim_as.result _ _ (λ claim is n grew.
    is n grew ∙ ap (λ whole. claim_as c.args.means.now.ops.now n whole (Some (AllDescend c.args.calls))) (c.bytes.ensures ∙ c.in_ok-whole.ensures))
    c.claim_as.ensures.claim

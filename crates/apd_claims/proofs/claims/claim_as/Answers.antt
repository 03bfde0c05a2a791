use Rattle.std.proofs.Common.{ap, ◌∙◌}
use Rattle.apd_claims.specs.Claims.{or_garbled}
use Rattle.apd_claims.proofs.claims.claim_as.Goals as goal

pub returns-clause-claim : goal.returns-clause-claim
returns-clause-claim c = λ n grew. c.or_garbled.ensures.claim ∙ ap or_garbled (c.in_ok-claim.ensures.claim n grew)

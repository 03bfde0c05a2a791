use Rattle.std.proofs.Common.{ap, ◌∙◌}
use Rattle.apd_claims.specs.Claims.{call_in, or_garbled}
use Rattle.apd_claims.proofs.calls.call_claim.Goals as goal

pub returns-clause-claim : goal.returns-clause-claim
returns-clause-claim c = λ n grew reader.
    c.or_garbled.ensures.claim
    ∙ ap or_garbled (c.in_ok-claim.ensures.claim n grew reader
    ∙ ap (λ whole. call_in reader c.args.means.now.ops.now whole c.args.calling c.args.text) c.in_ok-whole.ensures)

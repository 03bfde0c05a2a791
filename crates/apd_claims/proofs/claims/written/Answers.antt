use Rattle.std.proofs.Common.{◌∙◌}
use Rattle.apd_claims.proofs.Naming.{written-later}
use Rattle.apd_claims.proofs.claims.written.Goals as goal

pub returns-in-Ok-clause-claim : goal.returns-in-Ok-clause-claim
returns-in-Ok-clause-claim c = λ n grew. rw c.in-Some.is (
    c.said_if.ensures.claim
    ∙ written-later c.args.means.now.ops.now c.args.names.now n c.args.text.now c.in-Some.entry c.in-Ok.same grew (rw c.in-Some.is at c.requires) c.in-Ok.ensures)

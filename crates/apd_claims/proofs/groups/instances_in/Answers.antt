use Rattle.std.proofs.Common.{sym, ◌∙◌}
use Rattle.apd_claims.proofs.Instances.{Listing-more}
use Rattle.apd_claims.proofs.groups.instances_in.Goals as goal

pub lines-preserved : goal.lines-preserved
lines-preserved c = rw c.in_ok-push-in-Some.ensures.ok
    (Listing-more c.args.means.now.ops.now c.args.rest.now c.args.names.now c.lines.names c.instance_in.new.names c.lines.instances c.lines.left.now c.in-Some.first.line.now c.in-Some.first.rest.now
    c.lines.invariant c.instance_in.ensures.names c.instance_in.ensures.few c.in-Some.ensures.line.0 c.in-Some.ensures.line.1 c.in-Some-2.instance
    (rw c.in-Some-2.is at c.in_ok-instance-in-Some.ensures.named)
    (λ n g reader. sym c.in-Some-2.is ∙ c.in_ok-instance-in-Some.ensures.instance n g reader))

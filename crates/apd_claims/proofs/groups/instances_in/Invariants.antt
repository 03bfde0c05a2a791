use Rattle.std.proofs.Common.{length}
use Rattle.apd_claims.proofs.Instances.{Listing}
use Rattle.apd_claims.proofs.groups.instances_in.Given as goal

abbrev pub invariant-lines : goal.invariant-lines
invariant-lines l = Listing l.means.ops.now l.rest l.fn.names l.names l.instances l.left

abbrev pub decreases-lines : goal.decreases-lines
decreases-lines l = length l.left

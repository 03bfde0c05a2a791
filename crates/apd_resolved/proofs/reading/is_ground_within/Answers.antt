use Rattle.std.proofs.Common.{arith, subst}
use Rattle.apd_resolved.specs.Counting.{CountedWithin}
use Rattle.apd_resolved.proofs.Counts.{extent_ground}
use Rattle.apd_resolved.proofs.reading.is_ground_within.Goals as goal

pub returns : goal.returns
returns c =
    extent_ground c.args.heap.now c.args.at c.in-Some.count.extent
    (subst (CountedWithin c.args.heap.now c.args.at c.args.limit) c.in-Some.is c.in_ok-count.ensures).0 (omega (arith, c.if-count-gt0.false))

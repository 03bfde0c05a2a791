use Rattle.std.proofs.Common.{◌-◌, length}
use Rattle.apd_cells.specs.Ordered.{IsNotBefore}
use Rattle.apd_cells.proofs.order.few_place.Given as goal

abbrev pub invariant-places : goal.invariant-places
invariant-places l = IsNotBefore l.i l.seen l.v

abbrev pub decreases-places : goal.decreases-places
decreases-places l = length l.seen - l.i

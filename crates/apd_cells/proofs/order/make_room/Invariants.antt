use Rattle.std.proofs.Common.{◌+◌, ◌-◌, length}
use Rattle.apd_cells.specs.Ordered.{HasMorePlaces}
use Rattle.apd_cells.proofs.order.make_room.Given as goal

abbrev pub invariant-room : goal.invariant-room
invariant-room l = HasMorePlaces l.fn.places.items l.places.items

abbrev pub decreases-room : goal.decreases-room
decreases-room l = l.v + 1 - length l.places.items

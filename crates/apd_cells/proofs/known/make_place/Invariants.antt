use Rattle.std.proofs.Common.{◌+◌, ◌-◌, length}
use Rattle.apd_cells.proofs.known.make_place.Given as goal

abbrev pub decreases-room : goal.decreases-room
decreases-room l = l.cell + 1 - length l.places.items

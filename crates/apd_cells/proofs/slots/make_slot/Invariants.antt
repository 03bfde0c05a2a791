use Rattle.std.proofs.Common.{◌+◌, ◌-◌, length}
use Rattle.apd_cells.specs.Slots.{HasRoom}
use Rattle.apd_cells.proofs.slots.make_slot.Given as goal

abbrev pub invariant-room : goal.invariant-room
invariant-room l = HasRoom l.fn.slots.items l.slots.items

abbrev pub decreases-room : goal.decreases-room
decreases-room l = l.v + 1 - length l.slots.items

use Rattle.std.proofs.Common.{◌≤◌, ◌-◌, length}
use Rattle.std.specs.Prelude.{max}
use Rattle.apd_cells.specs.Heap.{HasMore}
use Rattle.apd_cells.proofs.symbols.make_room.Given as goal

abbrev pub invariant-room : goal.invariant-room
invariant-room l = record {
  more : HasMore l.fn.bindings.items l.bindings.items;
  within : length l.bindings.items ≤ max (length l.fn.bindings.items) l.count;
}

abbrev pub decreases-room : goal.decreases-room
decreases-room l = l.count - length l.bindings.items

use Rattle.std.proofs.Common.{◌+◌, ◌-◌, ◌≤◌, length, take}
use Rattle.std.specs.Prelude.{vec_capacity, vec_len}
use Rattle.apd_cells.proofs.Stretching.{Putting}
use Rattle.apd_cells.proofs.slots.append_copied.Given as goal

abbrev pub invariant-symbols : goal.invariant-symbols
invariant-symbols l = record {
  done : Putting l.copied l.symbols l.fn.cells.items l.cells.items l.there l.count l.fn.slots.items l.slots.items (take l.at l.symbols);
  room : vec_len l.cells + (length l.symbols - l.at) ≤ vec_capacity l.cells;
}

abbrev pub decreases-symbols : goal.decreases-symbols
decreases-symbols l = length l.symbols - l.at

use Rattle.std.proofs.Common.{◌+◌, ◌-◌, ◌≤◌, length, take}
use Rattle.std.specs.Prelude.{vec_capacity, vec_len}
use Rattle.apd_cells.specs.Slots.{Placing}
use Rattle.apd_cells.proofs.slots.append_placed.Given as goal

abbrev pub invariant-loop-symbol : goal.invariant-loop-symbol
invariant-loop-symbol l = record {
  done : Placing l.fn.cells.items l.cells.items l.there l.count l.fn.slots.items l.slots.items (take l.symbol-index l.symbols);
  room : vec_len l.cells + (length l.symbols - l.symbol-index) ≤ vec_capacity l.cells;
}

use Rattle.std.proofs.Common.{◌+◌, ◌-◌, ◌≤◌, length}
use Rattle.std.specs.Prelude.{vec_capacity, vec_len}
use Rattle.apd_cells.proofs.Appending.{Appended}
use Rattle.apd_cells.proofs.symbols.append_symbols.Given as goal

abbrev pub invariant-loop-symbol : goal.invariant-loop-symbol
invariant-loop-symbol l = record {
  done : Appended l.base l.symbols l.symbol-index l.fn.cells.items l.cells.items l.there l.count;
  room : vec_len l.cells + (length l.symbols - l.symbol-index) ≤ vec_capacity l.cells;
}

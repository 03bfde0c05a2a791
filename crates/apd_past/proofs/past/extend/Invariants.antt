use Rattle.std.proofs.Common.{◌≡◌, ◌+◌, ◌-◌, ◌++◌, ◌≤◌, length, take}
use Rattle.std.specs.Prelude.{vec_capacity, vec_len}
use Rattle.apd_past.proofs.past.extend.Given as goal

abbrev pub invariant-loop-symbol : goal.invariant-loop-symbol
invariant-loop-symbol l = record {
  put : l.cells.items ≡ l.fn.cells.items ++ take l.symbol-index l.symbols;
  room : vec_len l.cells + (length l.symbols - l.symbol-index) ≤ vec_capacity l.cells;
}

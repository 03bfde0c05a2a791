use Rattle.std.proofs.Common.{ℕ}
use Rattle.apd_index.specs.Columns.{IsAlike}
use Rattle.apd_bits.specs.Rows.{HasBit}
use Rattle.apd_index.proofs.repeats.strike_unequal.Given as goal

abbrev pub invariant-repeats : goal.invariant-repeats
invariant-repeats l = (k : ℕ) → HasBit l.fn.row k → IsAlike l.table.nodes l.table.columns l.fn.atom k → HasBit l.row k

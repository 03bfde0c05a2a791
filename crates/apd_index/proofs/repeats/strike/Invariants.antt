use Rattle.std.proofs.Common.{ℕ, ◌+◌}
use Rattle.apd_index.specs.Chains.{entries_from}
use Rattle.apd_index.specs.Columns.{Agree}
use Rattle.apd_bits.specs.Rows.{HasBit}
use Rattle.apd_index.proofs.Linked.{IsOn}
use Rattle.apd_index.proofs.repeats.strike.Given as goal

abbrev pub invariant-entries : goal.invariant-entries
invariant-entries l = record {
  ones : IsOn l.entries l.fn.one l.i;
  others : IsOn l.entries l.fn.other l.j;
  left : (k : ℕ) → HasBit l.fn.row k → Agree (entries_from l.entries l.fn.one) (entries_from l.entries l.fn.other) k → HasBit l.row k;
}

abbrev pub decreases-entries : goal.decreases-entries
decreases-entries l = l.i + l.j

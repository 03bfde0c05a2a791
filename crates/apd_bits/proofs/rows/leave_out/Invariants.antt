use Rattle.std.proofs.Common.{◌≡◌, ℕ, length}
use Rattle.apd_bits.specs.Rows.{HasBit}
use Rattle.apd_bits.proofs.rows.leave_out.Given as goal

abbrev pub invariant-words : goal.invariant-words
invariant-words l = record {
  count : length l.words.items ≡ length l.fn.words.items;
  left : (k : ℕ) → HasBit l.fn.words.items k → ¬ HasBit l.other k → HasBit l.words.items k;
}

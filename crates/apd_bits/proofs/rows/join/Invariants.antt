use Rattle.std.proofs.Common.{ℕ, ◌/◌, ◌<◌, ◌≤◌, length}
use Rattle.apd_bits.specs.Rows.{HasBit, IsWithin, IsWithinEither}
use Rattle.apd_bits.proofs.rows.join.Given as goal

abbrev pub invariant-words : goal.invariant-words
invariant-words l = record {
  enough : length l.other ≤ length l.words.items;
  kept : IsWithin l.fn.words.items l.words.items;
  only : IsWithinEither l.words.items l.fn.words.items l.other;
  joined : (k : ℕ) → k / 64 < l.i → HasBit l.other k → HasBit l.words.items k;
}

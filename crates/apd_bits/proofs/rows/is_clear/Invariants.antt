use Rattle.apd_bits.proofs.Bits.{AreZeros}
use Rattle.apd_bits.proofs.rows.is_clear.Given as goal

abbrev pub invariant-words : goal.invariant-words
invariant-words l = AreZeros l.words l.word-index

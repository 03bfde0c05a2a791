use Rattle.std.proofs.Common.{arith}
use Rattle.apd_bits.proofs.Bits.{all-clear, zeros-go}
use Rattle.apd_bits.proofs.rows.is_clear.Goals as goal

pub words-preserved : goal.words-preserved
words-preserved c = zeros-go c.args.words.now c.words.word-index c.if-word-ne0.false c.words.invariant

pub returns : goal.returns
returns c = λ yes. all-clear c.args.words.now c.words.word-index (omega arith) c.words.invariant

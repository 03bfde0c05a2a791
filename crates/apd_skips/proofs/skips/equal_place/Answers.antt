use Rattle.std.proofs.Common.{arith}
use Rattle.apd_skips.proofs.skips.equal_place.Goals as goal

pub are_equal-requires-clause-ones : goal.are_equal-requires-clause-ones
are_equal-requires-clause-ones c = λ i s l e. c.requires.skips i s (omega (arith, l)) e

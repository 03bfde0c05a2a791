use Rattle.std.proofs.Common.{length}
use Rattle.apd_plain.proofs.reader.pieces.+split.Given as goal

abbrev pub decreases-split : goal.decreases-split
decreases-split l = length l.pieces.now

use Rattle.std.proofs.Common.{length}
use Rattle.apd_ops.specs.Table.{Table}
use Rattle.apd_write.proofs.Closed.{Closing}
use Rattle.apd_write.proofs.closing.close_frames.Given as goal

abbrev pub invariant-closing : goal.invariant-closing
invariant-closing l = (ops : Table) → Closing ops l.names l.initial.frames.items l.frames.items l.initial.out l.out

abbrev pub decreases-closing : goal.decreases-closing
decreases-closing l = length l.frames.items

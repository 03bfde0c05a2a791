use Rattle.std.proofs.Common.{arith, length}
use Rattle.apd_cells.proofs.extents.Extents.recalled.Goals as goal

pub returns : goal.returns
returns c = λ s h. c.recent_at.ensures s (length s.trail) (omega arith) h.lately

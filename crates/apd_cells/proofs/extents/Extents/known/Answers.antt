use Rattle.std.proofs.Common.{arith, length}
use Rattle.apd_cells.proofs.extents.Extents.known.Goals as goal

pub returns-in-Some : goal.returns-in-Some
returns-in-Some c = λ s h. c.in-Some.ensures s (length s.trail) 0 (omega arith) h.kept.of_ground

pub returns : goal.returns
returns c = λ s h. c.known_at-2.ensures s (length s.trail) h.kept.most (omega arith) h.kept.of_open

use Rattle.std.proofs.Common.{◌+◌, ◌-◌, length}
use Rattle.apd_index.specs.Columns.{AddsUnlike}
use Rattle.apd_index.proofs.unlike.walk.Given as goal

abbrev pub invariant-entries : goal.invariant-entries
invariant-entries l = AddsUnlike l.ones l.others l.fn.row l.row

abbrev pub decreases-entries : goal.decreases-entries
decreases-entries l = (length l.ones - l.i) + (length l.others - l.j)

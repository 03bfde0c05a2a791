use Rattle.std.proofs.Common.{length}
use Rattle.apd_cells.proofs.Passing.{Replaces}
use Rattle.apd_cells.proofs.walk.next_run.Given as goal

abbrev pub invariant-done : goal.invariant-done
invariant-done l = Replaces l.fn.here l.fn.rest l.next l.rest

abbrev pub decreases-done : goal.decreases-done
decreases-done l = length l.rest

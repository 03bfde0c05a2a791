use Rattle.std.proofs.Common.{length, ◌-◌, ◌≤◌, ◌+◌}
use Rattle.apd_token.specs.Scan.{NoCloseBelow}
use Rattle.apd_token.proofs.runs.close_at.Given as goal

abbrev pub invariant-close : goal.invariant-close
invariant-close l = record { from : l.from ≤ l.k; within : l.k ≤ length l.text; none : NoCloseBelow l.text l.from (l.k + 1) }

abbrev pub decreases-close : goal.decreases-close
decreases-close l = length l.text - l.k

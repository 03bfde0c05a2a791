use Rattle.std.proofs.Common.{length, ◌-◌, ◌≤◌}
use Rattle.std.specs.List.{slice_range}
use Rattle.apd_token.specs.Quotes.{AllIn}
use Rattle.apd_token.proofs.runs.run_end.Given as goal

abbrev pub invariant-run : goal.invariant-run
invariant-run l = record { from : l.at ≤ l.end; within : l.end ≤ length l.text; each : AllIn l.set (slice_range l.text l.at l.end) }

abbrev pub decreases-run : goal.decreases-run
decreases-run l = length l.text - l.end

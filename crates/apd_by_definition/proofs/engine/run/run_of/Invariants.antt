use Rattle.std.proofs.Common.{◌-◌, ◌<◌, ◌≤◌, length}
use Rattle.apd_trace.specs.Run.{run_of}
use Rattle.apd_by_definition.proofs.PlainRuns.{Shows}
use Rattle.apd_by_definition.proofs.engine.run.run_of.Given as goal

abbrev pub invariant-items : goal.invariant-items
invariant-items l = record {
  shows : Shows (run_of l.fn.items.items l.budget l.answers) (run_of l.items.items (l.budget - l.ports) (l.answers - l.answered)) l.shown.items l.ports l.answered;
  within : l.ports ≤ l.budget;
  below : l.answered < l.answers;
}

abbrev pub decreases-items : goal.decreases-items
decreases-items l = length l.items.items

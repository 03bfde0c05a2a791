use Rattle.std.proofs.Common.{◌≤◌, ◌∷◌, length}
use Rattle.apd_cells.specs.Store.{term_at}
use Rattle.apd_cells.specs.Work.{AreRuns, runs_symbols}
use Rattle.apd_resolved.proofs.Counts.{IsCounted}
use Rattle.apd_resolved.proofs.counting.counted_within.Given as goal

abbrev pub invariant-parts : goal.invariant-parts
invariant-parts l = record {
  right : AreRuns l.heap.cells (l.here ∷ l.runs);
  counted : IsCounted (term_at l.heap l.at) l.extent (runs_symbols l.heap (l.here ∷ l.runs));
  within : l.extent.size ≤ l.limit;
  steps : l.steps ≤ l.extent.size;
}

abbrev pub decreases-parts : goal.decreases-parts
decreases-parts l = length (runs_symbols l.heap (l.here ∷ l.runs))

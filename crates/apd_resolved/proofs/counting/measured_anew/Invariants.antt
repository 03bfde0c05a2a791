use Rattle.std.proofs.Common.{◌≡◌, ◌≤◌, ◌∷◌, [], length}
use Rattle.apd_cells.specs.Store.{term_at}
use Rattle.apd_cells.specs.Work.{AreRuns, runs_symbols}
use Rattle.apd_resolved.proofs.Counts.{IsCounted}
use Rattle.apd_resolved.proofs.counting.measured_anew.Given as goal

abbrev pub invariant-parts : goal.invariant-parts
invariant-parts l = record {
  same : l.heap ≡ l.fn.heap;
  right : AreRuns l.fn.heap.cells (l.here ∷ []);
  counted : IsCounted (term_at l.fn.heap l.at) l.extent (runs_symbols l.fn.heap (l.here ∷ []));
  within : l.extent.size ≤ l.limit;
}

abbrev pub decreases-parts : goal.decreases-parts
decreases-parts l = length (runs_symbols l.fn.heap (l.here ∷ []))

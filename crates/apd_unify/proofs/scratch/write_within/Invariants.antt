use Rattle.std.proofs.Common.{◌≤◌, ◌∷◌, length}
use Rattle.apd_cells.specs.Store.{term_at}
use Rattle.apd_cells.specs.Work.{AreRuns, runs_symbols}
use Rattle.apd_cells.proofs.Placing.{IsWriting}
use Rattle.apd_unify.proofs.scratch.write_within.Given as goal

abbrev pub invariant-symbols : goal.invariant-symbols
invariant-symbols l = record {
  right : AreRuns l.heap.cells (l.here ∷ l.runs);
  writing : IsWriting l.fn.order l.order (term_at l.heap l.at) l.symbols.items (runs_symbols l.heap (l.here ∷ l.runs));
  within : length l.symbols.items ≤ l.limit;
}

abbrev pub decreases-symbols : goal.decreases-symbols
decreases-symbols l = length (runs_symbols l.heap (l.here ∷ l.runs))

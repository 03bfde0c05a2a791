use Rattle.std.proofs.Common.{◌≡◌, ◌++◌, length}
use Rattle.apd_term.specs.Term.{spell}
use Rattle.apd_cells.specs.Store.{term_at}
use Rattle.apd_cells.specs.Work.{IsWalk, walk_symbols}
use Rattle.apd_resolved.proofs.reading.resolved.Given as goal

abbrev pub invariant-symbols : goal.invariant-symbols
invariant-symbols l = record {
  right : IsWalk l.heap.cells l.walk;
  same : l.symbols ++ walk_symbols l.heap l.walk ≡ spell (term_at l.heap l.at);
}

abbrev pub decreases-symbols : goal.decreases-symbols
decreases-symbols l = length (walk_symbols l.heap l.walk)

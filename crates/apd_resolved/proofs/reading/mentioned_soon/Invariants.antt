use Rattle.apd_cells.specs.Store.{term_at}
use Rattle.apd_cells.specs.Work.{IsWalk, walk_symbols}
use Rattle.apd_cells.proofs.Sought.{StillSought}
use Rattle.apd_resolved.proofs.reading.mentioned_soon.Given as goal

abbrev pub invariant-symbols : goal.invariant-symbols
invariant-symbols l = record {
  right : IsWalk l.heap.cells l.walk;
  sought : StillSought l.v (term_at l.heap l.at) (walk_symbols l.heap l.walk);
}

use Rattle.apd_cells.specs.Work.{IsWalk, walk_symbols, HasSameVariables}
use Rattle.apd_cells.proofs.walk.Walk.skip_twins.Given as goal

abbrev pub invariant-twins : goal.invariant-twins
invariant-twins l = record {
  right : IsWalk l.heap.cells l.self;
  same : HasSameVariables (walk_symbols l.heap l.fn.self) (walk_symbols l.heap l.self);
}

abbrev pub decreases-twins : goal.decreases-twins
decreases-twins l = l.self.left

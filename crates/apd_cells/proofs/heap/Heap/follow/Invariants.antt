use Rattle.std.proofs.Common.{◌≡◌, ◌<◌, ◌⊎◌, get_or, length}
use Rattle.apd_term.specs.declared.term.Sym.TheVariants.{Var}
use Rattle.apd_cells.specs.Heap.{IsVariable}
use Rattle.apd_cells.specs.Store.{term_at}
use Rattle.apd_cells.proofs.Following.{rank}
use Rattle.apd_cells.proofs.heap.Heap.follow.Given as goal

abbrev pub invariant-bindings : goal.invariant-bindings
invariant-bindings l = record {
  inside : l.at < length l.self.cells;
  same : term_at l.self l.at ≡ term_at l.self l.from;
  start : (l.at ≡ l.from) ⊎ IsVariable (get_or l.self.cells l.from (Var 0));
}

abbrev pub decreases-bindings : goal.decreases-bindings
decreases-bindings l = rank (get_or l.self.cells l.at (Var 0))

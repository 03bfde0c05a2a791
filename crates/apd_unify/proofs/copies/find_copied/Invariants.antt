use Rattle.apd_unify.specs.Copies.{AreCopied}
use Rattle.apd_cells.specs.Store.{meaning}
use Rattle.apd_unify.proofs.copies.find_copied.Given as goal

abbrev pub invariant-hints : goal.invariant-hints
invariant-hints l = AreCopied (meaning l.heap.cells l.heap.trail) l.symbols l.found.items

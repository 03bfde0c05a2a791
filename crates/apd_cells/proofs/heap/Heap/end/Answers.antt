use Rattle.std.proofs.Common.{length}
use Rattle.apd_cells.proofs.Passing.{IsTerms-at}
use Rattle.apd_cells.proofs.heap.Heap.end.Goals as goal

pub term_end-requires-clause-whole : goal.term_end-requires-clause-whole
term_end-requires-clause-whole c =
    rw c.as_slice.ensures.value (IsTerms-at c.self.inside.cells.items (length c.self.inside.bindings.items) c.self.inside.trail c.args.at c.self.invariant.0.kept)

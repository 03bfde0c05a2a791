use Rattle.std.proofs.Common.{◌≡◌, ◌≤◌, length}
use Rattle.apd_cells.specs.Undone.{IsFront, undone}
use Rattle.apd_cells.proofs.heap.Heap.undo.Given as goal

abbrev pub invariant-notes : goal.invariant-notes
invariant-notes l = record {
  there : l.mark ≤ length l.self.trail;
  front : IsFront l.kept l.self.cells;
  same : undone l.kept l.mark l.self ≡ undone l.kept l.mark l.fn.self;
}

abbrev pub decreases-notes : goal.decreases-notes
decreases-notes l = length l.self.trail

use Rattle.std.proofs.Common.{◌∙◌, sym, arith, ap, length}
use Rattle.apd_cells.specs.Stored.{Stored}
use Rattle.apd_cells.proofs.Undone.{undone_here}
use Rattle.apd_cells.proofs.heap.Heap.undo.Goals as goal

pub returns : goal.returns
returns c =
    sym (undone_here c.args.kept c.args.mark c.notes.self (omega (arith, ap (λ (s : Stored). length s.trail) c.self.view_is))) ∙ c.notes.invariant.same

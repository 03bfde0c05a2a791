use Rattle.std.proofs.Common.{◌<◌, ◌≤◌, ℕ, arith, length, subst}
use Rattle.apd_term.specs.Term.{size}
use Rattle.apd_cells.specs.Stored.{Stored}
use Rattle.apd_cells.specs.Store.{written}
use Rattle.apd_cells.proofs.Flat.{are_within_if}
use Rattle.apd_cells.proofs.heap.Heap.are_within.Goals as goal

pub returns : goal.returns
returns c =
    let short : (k : ℕ) → k < length c.args.self.now.cells → size (written c.args.self.now.cells k) ≤ c.self.inside.longest =
    subst (λ (s : Stored). (k : ℕ) → k < length s.cells → size (written s.cells k) ≤ c.self.inside.longest) c.self.view_is
    c.self.invariant.3 in
    are_within_if c.is_flat.result c.args.self.now c.self.inside.longest c.args.most short (omega (arith, c.if-self-most.false)) c.is_flat.ensures

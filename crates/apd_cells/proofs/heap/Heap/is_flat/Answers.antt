use Rattle.std.proofs.Common.{◌≡◌, subst, arith, length}
use Rattle.apd_cells.specs.Stored.{Stored}
use Rattle.apd_term.specs.Term.{size}
use Rattle.apd_cells.specs.Store.{meaning, term_at, written}
use Rattle.apd_cells.specs.Flat.{compound_count}
use Rattle.apd_cells.proofs.Flat.{flat_meaning, size-applied}
use Rattle.apd_cells.proofs.heap.Heap.is_flat.Goals as goal

pub returns : goal.returns
returns c = λ k.
    let none : compound_count c.self.inside.cells.items c.self.inside.trail ≡ 0 = omega (arith, c.self.invariant.2, c.if-self-gt0.false) in
    let one = flat_meaning c.self.inside.cells.items (length c.self.inside.bindings.items) c.self.inside.trail c.self.invariant.0.kept none in
    subst (λ (s : Stored). size (term_at s k) ≡ size (written s.cells k)) c.self.view_is
    (size-applied (meaning c.self.inside.cells.items c.self.inside.trail) one (written c.self.inside.cells.items k))

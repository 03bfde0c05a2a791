use Rattle.std.proofs.Common.{◌≡◌, ◌<◌, length, drop, ◌∙◌, ap, sym, subst}
use Rattle.apd_term.specs.Term.{spell, IsTerms}
use Rattle.apd_term.proofs.Matched.{piece_symbols}
use Rattle.apd_cells.specs.Stored.{Stored}
use Rattle.apd_cells.specs.Store.{written}
use Rattle.apd_cells.proofs.Passing.{IsTerms-at}
use Rattle.apd_cells.proofs.heap.Heap.written.Goals as goal

pub term_end-end-requires-clause-whole : goal.term_end-end-requires-clause-whole
term_end-end-requires-clause-whole c =
    rw c.as_slice-cells.ensures.value (IsTerms-at c.self.inside.cells.items (length c.self.inside.bindings.items) c.self.inside.trail c.args.at c.self.invariant.0.kept)

pub returns-clause-symbols : goal.returns-clause-symbols
returns-clause-symbols c =
    let e : c.as_slice-cells.result.now ≡ c.args.self.now.cells = c.as_slice-cells.ensures.value ∙ ap (λ (y : Stored). y.cells) c.self.view_is in
    let l : c.args.at < length c.as_slice-cells.result.now = subst (λ z. c.args.at < length z) (sym e) c.requires in
    let whole : IsTerms (drop c.args.at c.as_slice-cells.result.now) =
    rw c.as_slice-cells.ensures.value (IsTerms-at c.self.inside.cells.items (length c.self.inside.bindings.items) c.self.inside.trail c.args.at c.self.invariant.0.kept) in
    piece_symbols c.as_slice-cells.result.now c.args.at c.term_end-end.result whole l c.term_end-end.ensures.end
    ∙ ap (λ z. spell (written z c.args.at)) e

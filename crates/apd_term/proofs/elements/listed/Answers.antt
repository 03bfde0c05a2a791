use Rattle.std.proofs.Common.{refl}
use Rattle.apd_term.specs.declared.term.Sym.TheVariants.{Var}
use Rattle.apd_term.specs.declared.standard.TheConstants.{CELL}
use Rattle.apd_term.proofs.Listing.{Listing-start, Listing-more, Listing-none}
use Rattle.apd_term.proofs.Paired.{pair_is, pair_tail}
use Rattle.apd_term.proofs.elements.listed.Goals as goal

pub cells-init : goal.cells-init
cells-init c = rw c.new-elements.ensures (Listing-start c.args.list.now c.symbols-symbols.result.now c.symbols-symbols.ensures)

pub piece_at-requires-clause-whole : goal.piece_at-requires-clause-whole
piece_at-requires-clause-whole c = pair_tail CELL c.symbols-symbols.result.now c.cells.at (Var 0) c.cells.invariant.whole c.cells.invariant.there (c.cells-test.ensures.0 refl)

pub cells-preserved : goal.cells-preserved
cells-preserved c =
    let cell = pair_is CELL c.symbols-symbols.result.now c.cells.at (Var 0) c.cells.invariant.whole c.cells.invariant.there (c.cells-test.ensures.0 refl) c.term_end-end.result c.term_end-end.ensures.end in
    rw c.in_ok-push.ensures.ok (Listing-more c.args.list.now c.symbols-symbols.result.now c.cells.elements c.cells.at c.term_end-end.result c.in_ok-piece_at.field-0 c.cells.invariant cell c.in_ok-piece_at.ensures)

pub returns : goal.returns
returns c = Listing-none c.args.list.now c.symbols-symbols.result.now c.cells.elements c.cells.at (Var 0) c.cells.invariant (λ e. absurd (let f = c.cells-test.ensures.1 e in cc)) (λ e. absurd (let f = c.if-is_end.ensures.1 e in cc))

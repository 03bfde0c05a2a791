use Rattle.std.proofs.Common.{◌∙◌, subst, sym}
use Rattle.apd_term.specs.Canonical.{canonical_in}
use Rattle.apd_term.proofs.Spelling.{whole_from_spelled, term_of_from_spelled}
use Rattle.apd_cells.specs.Store.{term_at}
use Rattle.apd_cells.specs.Ordered.{Writes, IsWritten, IsNumberedAnew}
use Rattle.apd_cells.proofs.Placing.{numbered_anew}
use Rattle.apd_unify.proofs.scratch.numbered_within.Goals as goal

written : (c : goal.After-of_items) → IsWritten c.scratch.inside.order c.write_within.new.order (term_at c.args.heap.now c.args.at) c.args.limit c.of_items.result
written c =
    subst (IsWritten c.scratch.inside.order c.write_within.new.order (term_at c.args.heap.now c.args.at) c.args.limit)
    (sym c.of_items.ensures)
    (subst (λ b. Writes b c.scratch.inside.order c.write_within.new.order (term_at c.args.heap.now c.args.at) c.args.limit c.write_within.new.symbols.items)
    c.if-not-written.false c.in_ok-written.ensures)

pub of_symbols-requires : goal.of_symbols-requires
of_symbols-requires c =
    let w = written c in
    whole_from_spelled c.of_items.result (canonical_in c.write_within.new.order (term_at c.args.heap.now c.args.at)) w.symbols_are

pub returns : goal.returns
returns c =
    let w : IsWritten c.scratch.inside.order c.write_within.new.order (term_at c.args.heap.now c.args.at) c.args.limit c.of_items.result =
    subst (IsWritten c.scratch.inside.order c.write_within.new.order (term_at c.args.heap.now c.args.at) c.args.limit)
    (sym c.of_items.ensures)
    (subst (λ b. Writes b c.scratch.inside.order c.write_within.new.order (term_at c.args.heap.now c.args.at) c.args.limit c.write_within.new.symbols.items)
    c.if-not-written.false c.in_ok-written.ensures) in
    let t = term_at c.args.heap.now c.args.at in
    let n = numbered_anew c.scratch.inside.order c.write_within.new.order t c.args.limit c.of_items.result c.of_symbols.result w
    (c.of_symbols.ensures ∙ term_of_from_spelled c.of_items.result (canonical_in c.write_within.new.order t) w.symbols_are) in
    subst (λ o. IsNumberedAnew o c.write_within.new.order t c.args.limit c.of_symbols.result) (c.scratch.view_is ∙ c.take_room.ensures) n

use Rattle.std.proofs.Common.{◌∙◌, subst, sym}
use Rattle.apd_term.specs.Canonical.{canonical_in}
use Rattle.apd_term.proofs.Spelling.{whole_from_spelled, term_of_from_spelled}
use Rattle.apd_cells.specs.Store.{term_at}
use Rattle.apd_cells.specs.Ordered.{Writes, IsWritten, IsNumberedAnew}
use Rattle.apd_cells.proofs.Placing.{numbered_anew}
use Rattle.apd_past.proofs.then.Then.number_within.Goals as goal

written : (c : goal.After-as_slice) → IsWritten c.page.inside.order c.write_within.new.order (term_at c.args.self.now c.args.cell.0) c.args.limit c.as_slice.result.now
written c =
    subst (IsWritten c.page.inside.order c.write_within.new.order (term_at c.args.self.now c.args.cell.0) c.args.limit) (sym c.as_slice.ensures.value)
    (subst (λ b. Writes b c.page.inside.order c.write_within.new.order (term_at c.args.self.now c.args.cell.0) c.args.limit c.write_within.new.symbols.items)
    c.if-not-written.false c.in_ok-written.ensures)

pub copy_of-requires : goal.copy_of-requires
copy_of-requires c =
    let w = written c in
    whole_from_spelled c.as_slice.result.now (canonical_in c.write_within.new.order (term_at c.args.self.now c.args.cell.0)) w.symbols_are

pub returns : goal.returns
returns c =
    let w : IsWritten c.page.inside.order c.write_within.new.order (term_at c.args.self.now c.args.cell.0) c.args.limit c.as_slice.result.now =
    subst (IsWritten c.page.inside.order c.write_within.new.order (term_at c.args.self.now c.args.cell.0) c.args.limit) (sym c.as_slice.ensures.value)
    (subst (λ b. Writes b c.page.inside.order c.write_within.new.order (term_at c.args.self.now c.args.cell.0) c.args.limit c.write_within.new.symbols.items)
    c.if-not-written.false c.in_ok-written.ensures) in
    let t = term_at c.args.self.now c.args.cell.0 in
    let n = numbered_anew c.page.inside.order c.write_within.new.order t c.args.limit c.as_slice.result.now c.in_ok-term.term w
    (c.in_ok-term.ensures ∙ term_of_from_spelled c.as_slice.result.now (canonical_in c.write_within.new.order t) w.symbols_are) in
    subst (λ o. IsNumberedAnew o c.write_within.new.order t c.args.limit c.in_ok-term.term) c.page.view_is n

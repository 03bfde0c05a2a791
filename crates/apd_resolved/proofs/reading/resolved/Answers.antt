use Rattle.std.proofs.Common.{◌∙◌}
use Rattle.apd_term.proofs.Spelling.{whole_from_spelled, term_of_from_spelled}
use Rattle.apd_cells.specs.Store.{term_at}
use Rattle.apd_cells.specs.Work.{walk_symbols}
use Rattle.apd_cells.proofs.Sought.{all_passed}
use Rattle.apd_resolved.proofs.reading.resolved.Goals as goal

pub of_symbols-requires : goal.of_symbols-requires
of_symbols-requires c =
    whole_from_spelled c.symbols.symbols (term_at c.args.heap.now c.args.at)
    (all_passed (term_at c.args.heap.now c.args.at) c.symbols.symbols (walk_symbols c.args.heap.now c.symbols.walk) (walk_symbols c.args.heap.now c.next.new.self)
    c.in_ok-symbol.field-0 c.in_ok-symbol.ensures.symbol c.in_default.is c.symbols.invariant.same)

pub returns : goal.returns
returns c =
    c.of_symbols.ensures
    ∙ term_of_from_spelled c.symbols.symbols (term_at c.args.heap.now c.args.at)
    (all_passed (term_at c.args.heap.now c.args.at) c.symbols.symbols (walk_symbols c.args.heap.now c.symbols.walk) (walk_symbols c.args.heap.now c.next.new.self)
    c.in_ok-symbol.field-0 c.in_ok-symbol.ensures.symbol c.in_default.is c.symbols.invariant.same)

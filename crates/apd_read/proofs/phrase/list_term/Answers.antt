use Rattle.std.proofs.Common.{◌++◌, sym, ◌∙◌, ap}
use Rattle.std.proofs.lemmas.List.{take_all}
use Rattle.apd_term.specs.Term.{spell}
use Rattle.apd_read.proofs.Cells.{cells, cells_step, list_is_whole, list_is}
use Rattle.apd_read.proofs.phrase.list_term.Goals as goal

pub terms-preserved : goal.terms-preserved
terms-preserved c =
    rw (c.in_ok-extend.ensures.ok, c.in_ok-push.ensures.ok, c.symbols.ensures, c.terms.invariant)
    (sym (cells_step c.args.terms.now c.terms.t-index c.t-item.result c.terms-test.true c.t-item.is))

pub of_symbols-requires : goal.of_symbols-requires
of_symbols-requires c =
    list_is_whole c.args.terms.now c.args.tail.now c.extend-2.new.self
    (rw (c.in_ok-extend-2.ensures.ok, c.symbols-2.ensures, c.terms.invariant)
    (ap (λ w. cells w ++ spell c.args.tail.now) (take_all c.terms.t-index c.args.terms.now c.terms-test.false)))

pub returns : goal.returns
returns c =
    c.of_symbols.ensures
    ∙ list_is c.args.terms.now c.args.tail.now c.extend-2.new.self
    (rw (c.in_ok-extend-2.ensures.ok, c.symbols-2.ensures, c.terms.invariant)
    (ap (λ w. cells w ++ spell c.args.tail.now) (take_all c.terms.t-index c.args.terms.now c.terms-test.false)))

use Rattle.std.proofs.Common.{sym, subst}
use Rattle.std.specs.List.{AllByRecursion}
use Rattle.std.proofs.lemmas.List.{drop_more, drop_all}
use Rattle.apd_kept.specs.Ranges.{IsSymbol}
use Rattle.apd_kept.proofs.ranges.are_symbols.Goals as goal

pub symbols-init : goal.symbols-init
symbols-init c = λ all. all

pub symbols-preserved : goal.symbols-preserved
symbols-preserved c = λ rest.
    c.symbols.invariant (subst (AllByRecursion IsSymbol) (sym (drop_more c.args.symbols.now c.symbols.i _ c.symbols-test.true)) (c.is_symbol.ensures, rest))

pub returns : goal.returns
returns c = c.symbols.invariant (subst (AllByRecursion IsSymbol) (sym (drop_all c.symbols.i c.args.symbols.now c.symbols-test.false)) tt)

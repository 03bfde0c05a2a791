use Rattle.std.proofs.Common.{sym, subst, rules}
use Rattle.std.specs.Prelude.{IsTrue}
use Rattle.std.specs.List.{AllByRecursion}
use Rattle.std.proofs.lemmas.List.{drop_more, drop_all}
use Rattle.apd_claims.specs.Parting.{IsOld}
use Rattle.apd_claims.proofs.parting.are_old.Goals as goal

pub symbols-init : goal.symbols-init
symbols-init c = λ all. all

pub symbols-preserved : goal.symbols-preserved
symbols-preserved c = λ rest.
    let yes : IsTrue c.is_old.result = search rules in
    c.symbols.invariant (subst (AllByRecursion (IsOld c.args.count)) (sym (drop_more c.args.symbols.now c.symbols.i _ c.symbols-test.true)) (c.is_old.ensures.0 yes, rest))

pub returns : goal.returns
returns c = λ yes. c.symbols.invariant (subst (AllByRecursion (IsOld c.args.count)) (sym (drop_all c.symbols.i c.args.symbols.now c.symbols-test.false)) tt)

use Rattle.std.proofs.Common.{◌∙◌, get_or, sym, true≢false}
use Rattle.apd_skips.specs.declared.skips.Skip.{Skip}
use Rattle.apd_skips.proofs.Placing.{skip-of, step-again, step-new, step-unequal}
use Rattle.apd_skips.proofs.kept.pass_variable.Goals as goal

pub returns-then-are_same-clause-step : goal.returns-then-are_same-clause-step
returns-then-are_same-clause-step c =
    let none : Skip = record { end = 0; equal = 0 } in
    let a = skip-of c.args.symbols.now c.args.skips.now c.args.from none c.requires.skips c.requires.there in
    step-again c.args.symbols.now c.args.v c.args.from (get_or c.args.skips.now c.args.from none).end c.args.firsts.now c.in-Some.first.now (sym c.in-Some.ensures.value) a.ends
    (c.are_same.ensures.0 c.if-are_same.true)

pub returns-in-Some-clause-step : goal.returns-in-Some-clause-step
returns-in-Some-clause-step c =
    step-unequal c.args.symbols.now c.args.v c.args.from 0 c.args.firsts.now c.in-Some.first.now (sym c.in-Some.ensures.value) (λ e. true≢false (sym (c.are_same.ensures.1 e) ∙ c.if-are_same.false))

pub returns-clause-step : goal.returns-clause-step
returns-clause-step c =
    let none : Skip = record { end = 0; equal = 0 } in
    let a = skip-of c.args.symbols.now c.args.skips.now c.args.from none c.requires.skips c.requires.there in
    step-new c.args.symbols.now c.args.v c.args.from (get_or c.args.skips.now c.args.from none).end c.args.firsts.now c.insert.new.self (sym c.in_default.ensures.value) c.in_ok-insert.ensures.entries a.ends

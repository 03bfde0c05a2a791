use Rattle.std.proofs.Common.{get_or, refl, sym, ◌∙◌}
use Rattle.apd_findings.proofs.Marked.{none-found, some-found, some-passed}
use Rattle.apd_findings.proofs.reaching.has_some.Goals as goal

pub returns-then-has : goal.returns-then-has
returns-then-has c =
    some-found c.args.row.now c.args.numbers.now c.numbers.number-index (get_or c.args.numbers.now c.numbers.number-index 0) c.numbers-test.true refl
    (sym c.has.ensures ∙ c.if-has.true)

pub numbers-preserved : goal.numbers-preserved
numbers-preserved c =
    some-passed c.args.row.now c.args.numbers.now c.numbers.number-index (get_or c.args.numbers.now c.numbers.number-index 0) c.numbers-test.true refl
    (sym c.has.ensures ∙ c.if-has.false) c.numbers.invariant

pub returns : goal.returns
returns c = none-found c.args.row.now c.args.numbers.now c.numbers.number-index c.numbers-test.false c.numbers.invariant

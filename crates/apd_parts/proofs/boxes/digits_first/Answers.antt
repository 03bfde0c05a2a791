use Rattle.std.proofs.Common.{arith, sym, ◌∙◌}
use Rattle.apd_parts.proofs.Outside.{digits-end, no-digit, one-digit}
use Rattle.apd_parts.proofs.boxes.digits_first.Goals as goal

pub returns-then-not-is_ascii_digit-clause-count : goal.returns-then-not-is_ascii_digit-clause-count
returns-then-not-is_ascii_digit-clause-count c =
    sym (c.digits.invariant.0 ∙ no-digit c.args.text.now c.digits.count (omega (arith, c.digits-test.true)) (sym c.is_ascii_digit.ensures.value ∙ c.if-not-is_ascii_digit.true))

pub returns-clause-count : goal.returns-clause-count
returns-clause-count c = sym (c.digits.invariant.0 ∙ digits-end c.args.text.now c.digits.count (omega (arith, c.digits-test.false)))

pub digits-preserved : goal.digits-preserved
digits-preserved c = (
  c.digits.invariant.0 ∙ one-digit c.args.text.now c.digits.count (omega (arith, c.digits-test.true)) (sym c.is_ascii_digit.ensures.value ∙ c.if-not-is_ascii_digit.false),
  omega (arith, c.digits-test.true),
)

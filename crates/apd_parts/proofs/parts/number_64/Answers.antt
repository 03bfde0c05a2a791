use Rattle.std.proofs.Common.{◌+◌, ◌*◌, ◌∙◌, ap, arith, get_or, sym}
use Rattle.std.specs.Char.{digit_value}
use Rattle.std.proofs.lemmas.Grind.{common_steps}
use Rattle.std.proofs.lemmas.Int.Digits.{digits_value_more}
use Rattle.apd_parts.proofs.Numbers.{all_read, no_digit, one_digit, too_great}
use Rattle.apd_parts.proofs.parts.number_64.Goals as goal

pub returns-then-not-is_ascii_digit : goal.returns-then-not-is_ascii_digit
returns-then-not-is_ascii_digit c = no_digit c.args.text.now c.digits.i (omega (arith, c.digits-test.true)) (sym c.is_ascii_digit.ensures.value ∙ c.if-not-is_ascii_digit.true)

pub returns-in_err-number : goal.returns-in_err-number
returns-in_err-number c = c.from_residual.ensures ∙ too_great c.args.text.now c.digits.i c.digits.number (omega (arith, c.digits-test.true)) c.digits.invariant.1 c.in_err-number.ensures.number

pub digits-preserved : goal.digits-preserved
digits-preserved c = (
  one_digit c.args.text.now c.digits.i (omega (arith, c.digits-test.true)) c.digits.invariant.0 (sym c.is_ascii_digit.ensures.value ∙ c.if-not-is_ascii_digit.false),
  c.in_ok-number.ensures.number ∙ ap (λ n. n * 10 + digit_value (get_or c.args.text.now c.digits.i 0)) c.digits.invariant.1 ∙ sym (digits_value_more 10 c.args.text.now c.digits.i (omega (arith, c.digits-test.true))),
  c.in_ok-number.ensures.short,
)

pub returns : goal.returns
returns c = all_read c.args.text.now c.digits.i c.digits.number (grind (arith, common_steps)) c.digits-test.false c.digits.invariant.0 c.digits.invariant.1 c.digits.invariant.2

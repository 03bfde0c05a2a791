use Rattle.std.proofs.Common.{◌∙◌}
use Rattle.std.proofs.lemmas.Int.{to_z-of_z}
use Rattle.apd_arith.specs.Integers.{truncated}
use Rattle.apd_arith.proofs.Integers.{by_zero_divisor, quotient-is}
use Rattle.apd_arith.proofs.operation.quotient.Goals as goal

pub returns-then-divisor-eq0 : goal.returns-then-divisor-eq0
returns-then-divisor-eq0 c = by_zero_divisor truncated c.args.dividend c.args.divisor c.ranges.divisor c.if-divisor-eq0.true

pub returns : goal.returns
returns c =
    let fx = c.ranges.dividend in
    let fy = c.ranges.divisor in
    let h = simp to_z-of_z at c.checked_div.ensures in
    c.ok_or.ensures.value ∙ quotient-is c.checked_div.result c.args.dividend c.args.divisor c.if-divisor-eq0.false h

use Rattle.std.proofs.Common.{sym, ◌∙◌}
use Rattle.std.proofs.lemmas.Int.{to_z-of_z}
use Rattle.apd_arith.specs.Integers.{remainder}
use Rattle.apd_arith.proofs.Integers.{by_zero_divisor, divided-fits, remainder-is}
use Rattle.apd_arith.proofs.operation.remainder.Goals as goal

pub returns-then-divisor-eq0 : goal.returns-then-divisor-eq0
returns-then-divisor-eq0 c = by_zero_divisor remainder c.args.dividend c.args.divisor c.ranges.divisor c.if-divisor-eq0.true

pub returns : goal.returns
returns c =
    let fx = c.ranges.dividend in
    let fy = c.ranges.divisor in
    let e = simp to_z-of_z at c.wrapping_rem.ensures in
    divided-fits remainder c.args.dividend c.args.divisor c.wrapping_rem.result c.if-divisor-eq0.false (record { sfits = c.wrapping_rem.type_inv }) (e ∙ sym (remainder-is c.args.dividend c.args.divisor))

use Rattle.std.proofs.Common.{inl, inr, ℤ, w64, FitsSigned}
use Rattle.std.proofs.lemmas.Int.{to_z-of_z}
use Rattle.apd_arith.specs.Integers.{modulo}
use Rattle.apd_arith.proofs.Integers.{by_zero_divisor, modulo-added, modulo-kept}
use Rattle.apd_arith.proofs.operation.modulo.Goals as goal
use Rattle.apd_arith.proofs.operation.modulo.Goals.{else-rest-ne0-via-then-rest-ne0+else-rest-divisor, else-rest-ne0-via-else-rest-ne0}

pub returns-then-divisor-eq0 : goal.returns-then-divisor-eq0
returns-then-divisor-eq0 c = by_zero_divisor modulo c.args.dividend c.args.divisor c.ranges.divisor c.if-divisor-eq0.true

pub returns-then-rest-divisor : goal.returns-then-rest-divisor
returns-then-rest-divisor c =
    let r : ℤ = c.wrapping_rem-rest.result in
    let f : FitsSigned w64 r = record { sfits = c.wrapping_rem-rest.type_inv } in
    let fx = c.ranges.dividend in
    let fy = c.ranges.divisor in
    let e = simp to_z-of_z at c.wrapping_rem-rest.ensures in
    let d = simp to_z-of_z at c.if-rest-divisor.true in
    simp to_z-of_z (modulo-added c.args.dividend c.args.divisor r c.if-divisor-eq0.false fy f e c.if-rest-ne0.true d)

pub returns : goal.returns
returns c =
    let r : ℤ = c.wrapping_rem-rest.result in
    let f : FitsSigned w64 r = record { sfits = c.wrapping_rem-rest.type_inv } in
    let fx = c.ranges.dividend in
    let fy = c.ranges.divisor in
    let e = simp to_z-of_z at c.wrapping_rem-rest.ensures in
    modulo-kept c.args.dividend c.args.divisor r c.if-divisor-eq0.false f e (elim c.else-rest-ne0.branch [
      | else-rest-ne0-via-then-rest-ne0+else-rest-divisor w ↦ inr (simp to_z-of_z at w.if-rest-divisor.false)
      | else-rest-ne0-via-else-rest-ne0 w ↦ inl w.if-rest-ne0.false
    ])

use Rattle.std.proofs.lemmas.List.{take_rest}
use Rattle.std.proofs.Common.{◌-◌, arith}
use Rattle.apd_parts.proofs.Cutting.{last-before, last-further}
use Rattle.apd_parts.proofs.parts.cut_last.Goals as goal

pub returns-in-Some : goal.returns-in-Some
returns-in-Some c =
    last-before c.args.bytes.now c.args.text.now c.in-Some.rest.now c.places.i (omega (arith, c.places-test.true)) c.places.invariant.0 (rw (take_rest c.args.text.now (c.places.i - 1)) at c.in-Some.ensures) c.places.invariant.1

pub places-preserved : goal.places-preserved
places-preserved c = (
  omega (arith, c.places.invariant.0),
  last-further c.args.bytes.now c.args.text.now c.places.i (omega (arith, c.places-test.true)) c.places.invariant.0 (rw (take_rest c.args.text.now (c.places.i - 1)) at c.in_default.ensures) c.places.invariant.1,
)

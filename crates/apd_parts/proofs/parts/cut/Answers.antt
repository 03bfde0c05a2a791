use Rattle.std.proofs.lemmas.List.{take_rest}
use Rattle.std.proofs.Common.{arith, ◌∙◌}
use Rattle.apd_parts.proofs.Cutting.{cut-here, cut-later}
use Rattle.apd_parts.proofs.parts.cut.Goals as goal

pub returns-in-Some : goal.returns-in-Some
returns-in-Some c = c.places.invariant ∙ cut-here c.args.bytes.now c.args.text.now c.in-Some.rest.now c.places.i (omega (arith, c.places-test.true)) (rw (take_rest c.args.text.now c.places.i) at c.in-Some.ensures)

pub places-preserved : goal.places-preserved
places-preserved c = c.places.invariant ∙ cut-later c.args.bytes.now c.args.text.now c.places.i (omega (arith, c.places-test.true)) (rw (take_rest c.args.text.now c.places.i) at c.in_default.ensures)

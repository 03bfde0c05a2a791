use Rattle.std.proofs.lemmas.List.{take_rest}
use Rattle.std.proofs.Common.{arith, ◌∙◌}
use Rattle.apd_parts.proofs.Outside.{outside-here, outside-later}
use Rattle.apd_parts.proofs.boxes.boxed_in.Goals as goal

pub returns-in-Some : goal.returns-in-Some
returns-in-Some c =
    c.places.invariant ∙ outside-here c.places.quote c.args.text.now (record { number = c.in-Some.led.number; rest = c.in-Some.led.rest.now }) c.places.i (omega (arith, c.places-test.true)) (rw (take_rest c.args.text.now c.places.i) at c.in-Some.ensures)

pub places-preserved : goal.places-preserved
places-preserved c =
    rw c.quote_after-quote.ensures
    (c.places.invariant ∙ outside-later c.places.quote c.args.text.now c.places.i (omega (arith, c.places-test.true)) (rw (take_rest c.args.text.now c.places.i) at c.in_default.ensures))

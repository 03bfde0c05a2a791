use Rattle.apd_cells.proofs.Ordered.{first_so, none_first}
use Rattle.apd_cells.proofs.order.few_place.Goals as goal

pub places-init : goal.places-init
places-init c = none_first c.args.seen.now c.args.v

pub returns-then-seen-i : goal.returns-then-seen-i
returns-then-seen-i c = first_so c.args.seen.now c.args.v c.places.i c.places.invariant (record { there = c.places-test.true; is = c.if-seen-i.true })

use Rattle.std.proofs.Common.{arith}
use Rattle.apd_cells.proofs.Ordered.{unseen}
use Rattle.apd_cells.proofs.order.place_in.Goals.{then-place-seen-via-then-place-seen, then-place-seen-via-else-place-seen+then-seen-place}
use Rattle.apd_cells.proofs.order.place_in.Goals as goal

pub returns-then-v-places : goal.returns-then-v-places
returns-then-v-places c = unseen c.args.seen.now c.args.places.now c.args.v c.requires.table c.requires.few (λ l p. omega (arith, l, c.if-v-places.true))

pub returns-then-place-seen : goal.returns-then-place-seen
returns-then-place-seen c = elim c.then-place-seen.branch [
  | then-place-seen-via-then-place-seen w ↦
      unseen c.args.seen.now c.args.places.now c.args.v c.requires.table c.requires.few (λ l p. omega (arith, p.there, w.if-place-seen.true))
  | then-place-seen-via-else-place-seen+then-seen-place w ↦
      unseen c.args.seen.now c.args.places.now c.args.v c.requires.table c.requires.few (λ l p. w.if-seen-place.true p.is)
]

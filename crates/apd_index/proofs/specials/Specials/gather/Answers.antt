use Rattle.apd_index.proofs.Unequal.{unlikes-still}
use Rattle.apd_index.proofs.specials.Specials.gather.Goals as goal

pub invariant_of-self : goal.invariant_of-self
invariant_of-self c = (
  (c.self.invariant.0.0, c.gather.ensures.noted),
  (
    c.gather.ensures.grows.sound,
    (
      c.in-Ok-true.ensures.columns c.in-Ok-true.field-0-test c.self.invariant.1.1.0,
      unlikes-still c.self.inside.known.table.columns c.gather.new.known.table.columns c.self.inside.unlikes c.gather.ensures.grows.entries c.self.invariant.1.1.1,
    ),
  ),
)

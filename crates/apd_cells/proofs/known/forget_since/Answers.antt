use Rattle.apd_cells.proofs.Sizing.{known_popped}
use Rattle.apd_cells.proofs.known.forget_since.Goals as goal

pub known-preserved : goal.known-preserved
known-preserved c = record {
  right = λ s n a h. known_popped s n a c.known.known c.pop.new.self c.pop.result c.pop.ensures (c.known.invariant.right s n a h);
}

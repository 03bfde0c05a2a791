use Rattle.apd_cells.proofs.Recent.{recent_popped}
use Rattle.apd_cells.proofs.known.forget_recent.Goals as goal

pub known-preserved : goal.known-preserved
known-preserved c = record {
  right = λ s n h. recent_popped s n c.known.recent c.pop.new.self c.pop.result c.pop.ensures (c.known.invariant.right s n h);
}

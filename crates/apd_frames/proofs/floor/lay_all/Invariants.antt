use Rattle.apd_frames.specs.Instances.{HasLaid}
use Rattle.apd_frames.proofs.floor.lay_all.Given as goal

abbrev pub invariant-pieces : goal.invariant-pieces
invariant-pieces l = HasLaid l.fn.store l.store

use Rattle.apd_clauses.specs.Clauses.{tuples_of}
use Rattle.apd_by_hand.proofs.replay.replay.Goals as goal

pub instances-preserved : goal.instances-preserved
instances-preserved c = record {
  newest = c.in_ok-newest-2.ensures.newest;
  sound = c.in_ok-newest-2.ensures.sound (tuples_of c.args.program.now) c.in_ok-newest.ensures.sound;
}

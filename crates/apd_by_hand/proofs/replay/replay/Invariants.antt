use Rattle.apd_clauses.specs.Clauses.{tuples_of}
use Rattle.apd_record.specs.Sound.{IsSound}
use Rattle.apd_by_hand.specs.Newest.{IsNewest}
use Rattle.apd_by_hand.proofs.replay.replay.Given as goal

abbrev pub invariant-instances : goal.invariant-instances
invariant-instances l = record {
  newest : IsNewest l.recorded l.newest.0;
  sound : IsSound (tuples_of l.program) l.recorded;
}

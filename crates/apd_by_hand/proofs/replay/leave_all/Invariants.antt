use Rattle.std.proofs.Common.{List}
use Rattle.apd_term.specs.declared.tuple.Tuple.{Tuple}
use Rattle.apd_record.specs.Sound.{IsSound}
use Rattle.apd_by_hand.specs.Newest.{IsNewest}
use Rattle.apd_by_hand.proofs.replay.leave_all.Given as goal

abbrev pub invariant-boxes : goal.invariant-boxes
invariant-boxes l = record {
  newest : IsNewest l.recorded l.last.0;
  sound : (P : List Tuple) → IsSound P l.fn.recorded → IsSound P l.recorded;
}

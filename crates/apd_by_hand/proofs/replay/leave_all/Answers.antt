use Rattle.apd_by_hand.proofs.replay.leave_all.Goals as goal

pub boxes-preserved : goal.boxes-preserved
boxes-preserved c = record {
  newest = c.in_ok-last.ensures.newest;
  sound = λ P s. c.in_ok-last.ensures.sound P (c.boxes.invariant.sound P s);
}

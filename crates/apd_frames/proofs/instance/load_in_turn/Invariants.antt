use Rattle.apd_frames.proofs.Bodies.{AreLoadedFor}
use Rattle.apd_frames.proofs.instance.load_in_turn.Given as goal

abbrev pub invariant-goals : goal.invariant-goals
invariant-goals l = AreLoadedFor l.fn.store l.store l.fn.made.slots.items l.made.slots.items l.body l.goal-index l.made.goals.items

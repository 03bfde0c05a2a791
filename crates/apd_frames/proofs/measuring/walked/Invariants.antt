use Rattle.std.proofs.Common.{◌≡◌, ◌+◌, ◌-◌, length}
use Rattle.apd_frames.specs.Links.{instance_of}
use Rattle.apd_frames.proofs.Seeing.{MeasuresTo}
use Rattle.apd_frames.proofs.measuring.walked.Given as goal

abbrev pub invariant-places : goal.invariant-places
invariant-places l = record {
  same : l.store ≡ l.fn.store;
  measuring : MeasuresTo l.fn.store (instance_of l.head l.goals) l.place l.left l.is_ground;
}

abbrev pub decreases-places : goal.decreases-places
decreases-places l = length l.goals + 1 - l.place

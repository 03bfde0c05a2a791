use Rattle.std.proofs.Common.{◌≡◌, length}
use Rattle.apd_read.specs.Stack.{closed}
use Rattle.apd_read.proofs.frames.closed.Given as goal

abbrev pub invariant-frames : goal.invariant-frames
invariant-frames l = closed l.frames l.p ≡ closed l.initial.frames l.initial.p

abbrev pub decreases-frames : goal.decreases-frames
decreases-frames l = length l.frames

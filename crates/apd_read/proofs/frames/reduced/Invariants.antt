use Rattle.std.proofs.Common.{◌≡◌, length}
use Rattle.apd_read.specs.Stack.{reduced}
use Rattle.apd_read.proofs.frames.reduced.Given as goal

abbrev pub invariant-frames : goal.invariant-frames
invariant-frames l = reduced l.o l.frames l.p ≡ reduced l.o l.initial.frames l.initial.p

abbrev pub decreases-frames : goal.decreases-frames
decreases-frames l = length l.frames

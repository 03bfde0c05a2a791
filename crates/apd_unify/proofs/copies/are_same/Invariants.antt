use Rattle.std.proofs.Common.{◌-◌, length, take}
use Rattle.apd_unify.specs.Copies.{AreSame}
use Rattle.apd_unify.proofs.copies.are_same.Given as goal

abbrev pub invariant-symbols : goal.invariant-symbols
invariant-symbols l = AreSame (take l.at l.ours) (take l.at l.theirs)

abbrev pub decreases-symbols : goal.decreases-symbols
decreases-symbols l = length l.ours - l.at

use Rattle.std.proofs.Common.{◌+◌, ◌-◌, length}
use Rattle.apd_resolved.specs.Noticed.{unseen}
use Rattle.apd_resolved.proofs.Search.{IsSearch}
use Rattle.apd_resolved.proofs.reaching.reaches.Given as goal

abbrev pub invariant-variables : goal.invariant-variables
invariant-variables l = IsSearch l.heap l.at l.v l.done l.seen

abbrev pub decreases-variables : goal.decreases-variables
decreases-variables l = unseen l.heap.variables l.seen + length l.seen - l.done

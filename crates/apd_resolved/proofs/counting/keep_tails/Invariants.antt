use Rattle.std.proofs.Common.{◌≡◌, length}
use Rattle.apd_resolved.proofs.counting.keep_tails.Given as goal

abbrev pub invariant-tails : goal.invariant-tails
invariant-tails l = l.heap ≡ l.fn.heap

abbrev pub decreases-tails : goal.decreases-tails
decreases-tails l = length l.tails

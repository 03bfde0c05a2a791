use Rattle.std.proofs.Common.{length}
use Rattle.apd_unify.proofs.Pairing.{Replaces}
use Rattle.apd_unify.proofs.unify.next_pairs.Given as goal

abbrev pub invariant-done : goal.invariant-done
invariant-done l = Replaces l.fn.here l.fn.pairs l.next l.pairs

abbrev pub decreases-done : goal.decreases-done
decreases-done l = length l.pairs

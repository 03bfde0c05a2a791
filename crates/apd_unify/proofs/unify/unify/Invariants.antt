use Rattle.std.proofs.Common.{◌∷◌}
use Rattle.apd_unify.proofs.Rounding.{Unifying, work_left}
use Rattle.apd_unify.proofs.unify.unify.Given as goal

abbrev pub invariant-pairs : goal.invariant-pairs
invariant-pairs l = Unifying l.fn.heap l.heap l.a l.b (l.here ∷ l.pairs)

abbrev pub decreases-pairs : goal.decreases-pairs
decreases-pairs l = work_left l.fn.heap l.heap l.a l.b (l.here ∷ l.pairs)

use Rattle.std.proofs.Common.{◌∷◌, ◌-◌, length}
use Rattle.apd_unify.proofs.Turning.{Matching}
use Rattle.apd_unify.proofs.heads.unify_head.Given as goal

abbrev pub invariant-symbols : goal.invariant-symbols
invariant-symbols l = Matching l.fn.heap l.heap l.slots.items l.goal l.head (l.here ∷ l.runs) l.symbols l.from

abbrev pub decreases-symbols : goal.decreases-symbols
decreases-symbols l = length l.symbols - l.from

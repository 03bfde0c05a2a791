use Rattle.std.proofs.Common.{◌≡◌, ◌+◌, ◌-◌, ◌^◌, min, take}
use Rattle.apd_term.specs.Term.{size}
use Rattle.apd_term.specs.Tuple.{sizes}
use Rattle.apd_term.proofs.tuple.Tuple.size.Given as goal

abbrev pub invariant-loop-atom : goal.invariant-loop-atom
invariant-loop-atom l = l.total ≡ min (size l.self.head + sizes (take l.atom-index l.atom-items)) (2 ^ 64 - 1)

use Rattle.std.proofs.Common.{◌≡◌, ◌++◌, [], take}
use Rattle.std.specs.List.{fold, flat_map}
use Rattle.apd_term.specs.Term.{variables}
use Rattle.apd_term.specs.Canonical.{with_new}
use Rattle.apd_term.proofs.tuple.order_of.Given as goal

abbrev pub invariant-loop-atom : goal.invariant-loop-atom
invariant-loop-atom l = l.order.keys ≡ fold with_new [] (variables l.t.head ++ flat_map variables (take l.atom-index l.atom-items))

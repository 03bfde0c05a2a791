use Rattle.std.proofs.Common.{◌≡◌, ◌++◌, drop}
use Rattle.std.specs.List.{zip}
use Rattle.apd_term.specs.Term.{arguments}
use Rattle.apd_by_definition.proofs.unify.push_arguments.Given as goal

abbrev pub invariant-places : goal.invariant-places
invariant-places l = l.equations.items ≡ zip (drop l.k (arguments l.left)) (drop l.k (arguments l.right)) ++ l.fn.equations.items

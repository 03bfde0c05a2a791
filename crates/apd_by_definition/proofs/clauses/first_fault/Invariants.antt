use Rattle.std.proofs.Common.{◌≡◌, None, take}
use Rattle.apd_clauses.specs.Bodies.{first_fault}
use Rattle.apd_by_definition.proofs.clauses.first_fault.Given as goal

abbrev pub invariant-goals : goal.invariant-goals
invariant-goals l = first_fault (take l.goal-index l.goals) ≡ None

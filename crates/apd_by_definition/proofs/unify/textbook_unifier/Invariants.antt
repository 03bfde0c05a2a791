use Rattle.std.proofs.Common.{◌++◌, ◌-◌, length}
use Rattle.apd_term.specs.Term.{variables}
use Rattle.apd_unify.specs.Textbook.{size_equations}
use Rattle.apd_unify.proofs.Measure.{most_steps}
use Rattle.apd_unify.proofs.Worklist.{IsUnderWay}
use Rattle.apd_by_definition.proofs.unify.textbook_unifier.Given as goal

abbrev pub invariant-rules : goal.invariant-rules
invariant-rules l = IsUnderWay l.a l.b l.work.equations.items l.work.found

abbrev pub decreases-rules : goal.decreases-rules
decreases-rules l = most_steps (length (variables l.a ++ variables l.b) - length l.work.found) (size_equations l.work.equations.items)

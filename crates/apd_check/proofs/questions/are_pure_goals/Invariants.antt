use Rattle.std.proofs.Common.{ℕ, ◌<◌, get_or}
use Rattle.apd_term.specs.Term.{Term}
use Rattle.apd_clauses.specs.Kinds.{IsPureGoal}
use Rattle.apd_check.proofs.questions.are_pure_goals.Given as goal

abbrev pub invariant-terms : goal.invariant-terms
invariant-terms l = (k : ℕ) (d : Term) → k < l.term-index → IsPureGoal (get_or l.terms k d)

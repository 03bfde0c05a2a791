use Rattle.apd_term.specs.Term.{size}
use Rattle.apd_by_definition.proofs.clauses.+goals_of.Given as goal

abbrev pub decreases-goals_of : goal.decreases-goals_of
decreases-goals_of l = size l.term.now

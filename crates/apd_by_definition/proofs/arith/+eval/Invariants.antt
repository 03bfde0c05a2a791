use Rattle.apd_term.specs.Term.{size}
use Rattle.apd_by_definition.proofs.arith.+eval.Given as goal

abbrev pub decreases-eval : goal.decreases-eval
decreases-eval l = size l.expr.now

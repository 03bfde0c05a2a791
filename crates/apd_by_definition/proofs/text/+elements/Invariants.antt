use Rattle.apd_term.specs.Term.{size}
use Rattle.apd_by_definition.proofs.text.+elements.Given as goal

abbrev pub decreases-elements : goal.decreases-elements
decreases-elements l = size l.list.now

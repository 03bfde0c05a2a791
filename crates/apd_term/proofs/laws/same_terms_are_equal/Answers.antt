use Rattle.apd_term.proofs.Opposite.{same_term-is}
use Rattle.apd_term.proofs.laws.same_terms_are_equal.Goals as goal

pub returns : goal.returns
returns c = same_term-is

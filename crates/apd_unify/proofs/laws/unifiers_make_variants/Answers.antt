use Rattle.apd_unify.proofs.Unique.{made_of-answers, made_of-same}
use Rattle.apd_unify.proofs.laws.unifiers_make_variants.Goals as goal

pub returns-clause-same_terms : goal.returns-clause-same_terms
returns-clause-same_terms c = made_of-answers

pub returns-clause-variants : goal.returns-clause-variants
returns-clause-variants c = made_of-same

use Rattle.std.proofs.Common.{sym}
use Rattle.apd_term.proofs.Variants.{AreVariants_from_instances, IsInstance_from_variants, canonical-canonical}
use Rattle.apd_term.proofs.Tuples.{AreTupleVariants_from_instances, IsTupleInstance_from_variants, IsTupleInstance-canonical, canonical_is_instance}
use Rattle.apd_term.specs.Tuple.{canonical_tuple}
use Rattle.apd_term.proofs.laws.variants_are_instances_of_each_other.Goals as goal

pub returns-clause-terms : goal.returns-clause-terms
returns-clause-terms c a b =
    ((λ e. (IsInstance_from_variants a b e, IsInstance_from_variants b a (sym e))), (λ p. AreVariants_from_instances a b p.1 p.0))

pub returns-clause-tuples : goal.returns-clause-tuples
returns-clause-tuples c a b =
    ((λ e. (IsTupleInstance_from_variants a b e, IsTupleInstance_from_variants b a (sym e))), (λ p. AreTupleVariants_from_instances a b p.1 p.0))

pub returns-clause-of_a_term : goal.returns-clause-of_a_term
returns-clause-of_a_term c t = canonical-canonical t

pub returns-clause-of_a_tuple : goal.returns-clause-of_a_tuple
returns-clause-of_a_tuple c t = AreTupleVariants_from_instances (canonical_tuple t) t (IsTupleInstance-canonical t) (canonical_is_instance t)

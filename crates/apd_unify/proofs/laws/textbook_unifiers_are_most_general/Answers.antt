use Rattle.apd_unify.specs.Textbook.{unifier_of}
use Rattle.apd_unify.proofs.Answered.{unifies, most_general, idempotent, brings_no_variable, none_exactly}
use Rattle.apd_unify.proofs.Textbook.{unifier_of-right}
use Rattle.apd_unify.proofs.laws.textbook_unifiers_are_most_general.Goals as goal

pub returns-clause-unifies : goal.returns-clause-unifies
returns-clause-unifies c a b = unifies a b (unifier_of a b) (unifier_of-right a b)

pub returns-clause-most_general : goal.returns-clause-most_general
returns-clause-most_general c a b = most_general a b (unifier_of a b) (unifier_of-right a b)

pub returns-clause-idempotent : goal.returns-clause-idempotent
returns-clause-idempotent c a b = idempotent a b (unifier_of a b) (unifier_of-right a b)

pub returns-clause-brings_no_variable : goal.returns-clause-brings_no_variable
returns-clause-brings_no_variable c a b = brings_no_variable a b (unifier_of a b) (unifier_of-right a b)

pub returns-clause-none : goal.returns-clause-none
returns-clause-none c a b = none_exactly a b (unifier_of a b) (unifier_of-right a b)

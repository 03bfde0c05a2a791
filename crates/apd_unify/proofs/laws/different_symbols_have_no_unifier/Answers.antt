use Rattle.apd_unify.proofs.Beginning.{apart_first, apart_keys, no_unifier_apart}
use Rattle.apd_unify.proofs.laws.different_symbols_have_no_unifier.Goals as goal

pub returns-clause-first : goal.returns-clause-first
returns-clause-first c = apart_first

pub returns-clause-keys : goal.returns-clause-keys
returns-clause-keys c = apart_keys

pub returns-clause-apart : goal.returns-clause-apart
returns-clause-apart c = no_unifier_apart

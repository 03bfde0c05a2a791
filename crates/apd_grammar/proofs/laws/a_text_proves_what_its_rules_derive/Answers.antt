use Rattle.apd_clauses.specs.Clauses.{tuples_of}
use Rattle.apd_load.specs.Texts.{clause_terms}
use Rattle.apd_load.proofs.Sources.{made_of_terms}
use Rattle.apd_grammar.proofs.Both.{proved_as_derived}
use Rattle.apd_grammar.proofs.laws.a_text_proves_what_its_rules_derive.Goals as goal

pub returns : goal.returns
returns c = λ names text l made. proved_as_derived (clause_terms made) (tuples_of l.program) (made_of_terms names text (record { program = l.program; ops = l.ops; passed = l.passed }) made)

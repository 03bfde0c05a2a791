use Rattle.apd_grammar.proofs.Both.{proved_as_derived}
use Rattle.apd_grammar.proofs.laws.rules_prove_what_they_derive.Goals as goal

pub returns : goal.returns
returns c = proved_as_derived

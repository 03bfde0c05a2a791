use Rattle.apd_load.proofs.Sources.{made_of_terms}
use Rattle.apd_load.proofs.laws.what_is_loaded_is_made_of_terms.Goals as goal

pub returns : goal.returns
returns c = made_of_terms

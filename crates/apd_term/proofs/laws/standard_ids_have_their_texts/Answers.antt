use Rattle.apd_term.proofs.FirstNames.{texts_of_standard_ids, HasDistinctTexts-standard_names}
use Rattle.apd_term.proofs.laws.standard_ids_have_their_texts.Goals as goal

pub returns-clause-texts : goal.returns-clause-texts
returns-clause-texts c = texts_of_standard_ids

pub returns-clause-distinct : goal.returns-clause-distinct
returns-clause-distinct c = HasDistinctTexts-standard_names

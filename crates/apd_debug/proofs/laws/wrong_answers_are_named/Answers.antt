use Rattle.apd_debug.proofs.KnownTrees.{wrong-keeps}
use Rattle.apd_debug.proofs.laws.wrong_answers_are_named.Goals as goal

pub returns : goal.returns
returns c = wrong-keeps

use Rattle.apd_debug.proofs.KnownGoals.{missing-keeps}
use Rattle.apd_debug.proofs.laws.missing_answers_are_named.Goals as goal

pub returns : goal.returns
returns c = missing-keeps

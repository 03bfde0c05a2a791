use Rattle.apd_debug.proofs.KnownLoops.{loop-keeps}
use Rattle.apd_debug.proofs.laws.runs_without_end_are_named.Goals as goal

pub returns : goal.returns
returns c = loop-keeps

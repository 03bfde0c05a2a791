use Rattle.apd_numbering.proofs.Judged.{checked-renumbered}
use Rattle.apd_numbering.proofs.laws.checks_are_renumbered.Goals as goal

pub returns : goal.returns
returns c = checked-renumbered

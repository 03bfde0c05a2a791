use Rattle.apd_numbering.proofs.HeldElsewhere.{held-elsewhere, found-elsewhere}
use Rattle.apd_numbering.proofs.laws.what_holds_holds_elsewhere.Goals as goal

pub returns : goal.returns
returns c = record { holds = held-elsewhere; found = found-elsewhere }

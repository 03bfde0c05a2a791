use Rattle.apd_numbering.proofs.CheckedAlike.{checked-alike, checked-lastingly}
use Rattle.apd_numbering.proofs.laws.any_numbering_will_do.Goals as goal

pub returns : goal.returns
returns c = record { alike = checked-alike; lasting = checked-lastingly }

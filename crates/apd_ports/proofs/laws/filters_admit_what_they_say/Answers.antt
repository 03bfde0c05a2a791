use Rattle.apd_ports.proofs.Admitting.{admits_what_it_says}
use Rattle.apd_ports.proofs.laws.filters_admit_what_they_say.Goals as goal

pub returns : goal.returns
returns c = admits_what_it_says

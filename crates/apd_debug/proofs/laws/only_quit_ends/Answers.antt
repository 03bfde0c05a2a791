use Rattle.apd_debug.proofs.Bridging.{only_quit}
use Rattle.apd_debug.proofs.laws.only_quit_ends.Goals as goal

pub returns : goal.returns
returns g c = λ b. only_quit b.replies b.diagnosis b.found b.state b.reader b.ops b.talker b.hears

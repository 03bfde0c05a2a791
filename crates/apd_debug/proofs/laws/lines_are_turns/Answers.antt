use Rattle.apd_debug.proofs.Bridging.{waits}
use Rattle.apd_debug.proofs.laws.lines_are_turns.Goals as goal

pub returns : goal.returns
returns g c = λ b. waits b.replies b.diagnosis b.found b.state b.reader b.ops b.talker b.hears

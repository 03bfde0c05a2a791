use Rattle.apd_debug.proofs.Replying.{are_said}
use Rattle.apd_debug.proofs.laws.lines_make_the_dialogue.Goals as goal

pub returns : goal.returns
returns g c = λ b. are_said b.replies b.diagnosis b.found b.state b.reader b.ops b.talker b.hears

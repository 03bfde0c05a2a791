use Rattle.apd_talk.proofs.Awaiting.{awaits}
use Rattle.apd_talk.proofs.laws.a_talker_awaits.Goals as goal

pub returns : goal.returns
returns g c = λ talker s turn closed waits lines close. awaits talker s turn closed waits lines close

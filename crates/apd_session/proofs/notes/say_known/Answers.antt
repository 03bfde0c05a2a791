use Rattle.apd_talk.proofs.Speaking.{Says-nothing}
use Rattle.apd_session.proofs.notes.say_known.Goals as goal

pub returns-in-None : goal.returns-in-None
returns-in-None g c = rw c.in-None.is (Says-nothing c.args.voice.now tt)

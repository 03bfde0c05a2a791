use Rattle.apd_talk.specs.Utterance.{entries_of}
use Rattle.apd_session.proofs.Findings.{session-right}
use Rattle.apd_session.proofs.Logged.{refers-rightly}
use Rattle.apd_session.specs.Session.{session_of}
use Rattle.apd_session.proofs.laws.references_reply_truly.Goals as goal

pub returns : goal.returns
returns g c = λ words names reader world.
    let m = g.M.Intended.interpretation in
    refers-rightly m words names reader world (entries_of (session_of words reader world).utterances) (session-right m reader words world)

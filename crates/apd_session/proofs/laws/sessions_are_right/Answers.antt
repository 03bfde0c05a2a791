use Rattle.apd_session.proofs.Findings.{session-right}
use Rattle.apd_session.proofs.laws.sessions_are_right.Goals as goal

pub returns : goal.returns
returns g c = λ words names reader world. session-right g.M.Intended.interpretation reader words world

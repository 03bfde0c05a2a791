use Rattle.apd_session.proofs.Reasons.{each-status, each-stop}
use Rattle.apd_session.proofs.laws.each_status_has_its_reason.Goals as goal

pub returns-clause-stops : goal.returns-clause-stops
returns-clause-stops c = λ words names reader files s. each-stop words names reader files s

pub returns-clause-status : goal.returns-clause-status
returns-clause-status c = λ words names reader world s. each-status words names reader world s

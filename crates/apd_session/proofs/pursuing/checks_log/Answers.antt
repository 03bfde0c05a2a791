use Rattle.std.proofs.Common.{Ok, Err}
use Rattle.apd_session.proofs.Making.{pursues_log}
use Rattle.apd_session.proofs.pursuing.checks_log.Goals as goal

pub returns-in-Ok-clause-pursues : goal.returns-in-Ok-clause-pursues
returns-in-Ok-clause-pursues g c = λ program. pursues_log _ _ program c.args.name.now (Ok c.in-Ok.log) (rw c.in-Ok.is at c.in_ok-log.ensures.has)

pub returns-in-Err-clause-pursues : goal.returns-in-Err-clause-pursues
returns-in-Err-clause-pursues g c = λ program. pursues_log _ _ program c.args.name.now (Err c.in-Err.stop) (rw c.in-Err.is at c.in_ok-log.ensures.has)

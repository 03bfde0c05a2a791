use Rattle.apd_session.proofs.Making.{pursues_file, pursues_tree}
use Rattle.apd_session.proofs.pursuing.pursue.Goals as goal

pub returns-in-File-clause-pursues : goal.returns-in-File-clause-pursues
returns-in-File-clause-pursues g c = rw c.in-File.is (pursues_file _ _ _)

pub returns-in-Tree-clause-pursues : goal.returns-in-Tree-clause-pursues
returns-in-Tree-clause-pursues g c = rw c.in-Tree.is (pursues_tree _ _ _)

pub returns-in-Log-clause-pursues : goal.returns-in-Log-clause-pursues
returns-in-Log-clause-pursues g c = rw c.in-Log.is (c.checks_log.ensures.pursues c.in-Log.program.now)

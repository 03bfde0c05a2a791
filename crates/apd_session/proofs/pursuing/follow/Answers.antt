use Rattle.std.proofs.Common.{sym}
use Rattle.apd_session.proofs.LoadCounts.{goes_counts}
use Rattle.apd_session.proofs.Making.{goes_ready}
use Rattle.apd_session.proofs.pursuing.follow.Goals as goal

pub returns-in-Ok-clause-follows : goal.returns-in-Ok-clause-follows
returns-in-Ok-clause-follows g c = record { course = c.in-Ok.course; pursues = c.in-Ok.ensures.pursues; so = sym c.goes_on.ensures }

pub returns-in-Ok-clause-ready : goal.returns-in-Ok-clause-ready
returns-in-Ok-clause-ready g c = λ n is. rw c.goes_on.ensures (goes_ready n c.args.ops c.args.start c.in-Ok.course is c.in-Ok.ensures.ready)

pub returns-in-Ok-clause-faults : goal.returns-in-Ok-clause-faults
returns-in-Ok-clause-faults g c = rw c.goes_on.ensures (goes_counts c.args.ops c.args.start c.in-Ok.course _ _ c.in-Ok.ensures.faults)

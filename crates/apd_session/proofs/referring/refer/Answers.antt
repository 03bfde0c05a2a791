use Rattle.apd_session.proofs.LoadCounts.{counts_calm}
use Rattle.apd_session.specs.Preparing.{stops_referring}
use Rattle.apd_session.proofs.Refereeing.{refers_unnamed}
use Rattle.apd_session.proofs.referring.refer.Goals as goal

pub returns-in_default-clause-refers : goal.returns-in_default-clause-refers
returns-in_default-clause-refers g c = rw c.in_default.is (refers_unnamed _ _ c.args.budget c.args.names.now)

pub returns-in-Ok-clause-faults : goal.returns-in-Ok-clause-faults
returns-in-Ok-clause-faults g c = counts_calm stops_referring c.refer_by.result _ _ (rw c.in-Ok.is at c.in_ok-text.ensures.faults) c.refer_by.ensures.calm

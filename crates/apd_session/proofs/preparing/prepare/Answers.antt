use Rattle.apd_session.proofs.LoadCounts.{counts_calm}
use Rattle.apd_session.specs.Preparing.{refuses_with}
use Rattle.apd_session.proofs.Making.{prepares_unnamed}
use Rattle.apd_session.proofs.preparing.prepare.Goals as goal

pub returns-in_default-clause-prepares : goal.returns-in_default-clause-prepares
returns-in_default-clause-prepares g c = rw c.in_default.is (prepares_unnamed _ _ c.args.ops.now c.args.names.now c.new.result c.new.ensures)

pub returns-in-Ok-clause-faults : goal.returns-in-Ok-clause-faults
returns-in-Ok-clause-faults g c = counts_calm refuses_with c.state.result _ _ (rw c.in-Ok.is at c.in_ok-text.ensures.faults) c.state.ensures.calm

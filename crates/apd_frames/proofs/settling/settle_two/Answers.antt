use Rattle.apd_cells.proofs.Bindings.{Keeps-self}
use Rattle.apd_frames.proofs.settling.settle_two.Goals as goal

pub returns-in-True-clause-kept : goal.returns-in-True-clause-kept
returns-in-True-clause-kept c = Keeps-self c.args.store.now

pub returns-clause-kept : goal.returns-clause-kept
returns-clause-kept c = Keeps-self c.args.store.now

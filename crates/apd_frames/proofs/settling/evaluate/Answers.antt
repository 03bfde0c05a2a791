use Rattle.apd_cells.proofs.Bindings.{Keeps-self}
use Rattle.apd_frames.proofs.settling.evaluate.Goals as goal

pub returns-in_err-error_of-in-Err-clause-kept : goal.returns-in_err-error_of-in-Err-clause-kept
returns-in_err-error_of-in-Err-clause-kept c = Keeps-self c.args.store.now

pub returns-in_ok-error_of-in-Err-clause-kept : goal.returns-in_ok-error_of-in-Err-clause-kept
returns-in_ok-error_of-in-Err-clause-kept c = Keeps-self c.args.store.now

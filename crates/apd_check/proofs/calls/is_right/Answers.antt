use Rattle.apd_check.proofs.Callers.{nothing-found}
use Rattle.apd_check.proofs.calls.is_right.Goals as goal

pub returns-in-None : goal.returns-in-None
returns-in-None c = rw c.in-None.is (nothing-found c.args.program.now c.args.state.now)

use Rattle.apd_check.proofs.Callers.{no-finding, right-judged}
use Rattle.apd_check.proofs.calls.is_right_claim.Goals as goal

pub returns-in_ok-judged-in-Finds : goal.returns-in_ok-judged-in-Finds
returns-in_ok-judged-in-Finds c = rw c.in-Finds.is
    (right-judged c.args.program.now c.args.state.now c.in-Finds.finding c.in-Finds.line c.in_ok-judged-in-Finds.judged c.is_none.result c.is_none.ensures c.in_ok-judged-in-Finds.ensures)

pub returns-in_default : goal.returns-in_default
returns-in_default c = no-finding c.args.program.now c.args.state.now c.args.claim.now c.in_default.not-Finds

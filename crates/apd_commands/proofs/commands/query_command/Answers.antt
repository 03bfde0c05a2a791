use Rattle.apd_clauses.proofs.FaultNames.{query_fault_named}
use Rattle.apd_commands.proofs.Commanding.{refusal_known}
use Rattle.apd_commands.proofs.commands.query_command.Goals as goal

pub returns-in-Err-clause-can : goal.returns-in-Err-clause-can
returns-in-Err-clause-can c = λ n of_line.
    refusal_known n c.in-Err.fault c.goal_refused.result c.goal_refused.ensures.command c.goal_refused.ensures.fault
    (λ some. query_fault_named n c.args.read.now c.in-Err.fault of_line.named (c.in-Err.ensures.err some))

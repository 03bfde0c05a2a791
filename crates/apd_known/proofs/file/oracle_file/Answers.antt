use Rattle.apd_known.proofs.Dividing.{clauses_stated, token_fault_told}
use Rattle.apd_known.proofs.file.oracle_file.Goals as goal

pub returns-in-Ok-clause-stated : goal.returns-in-Ok-clause-stated
returns-in-Ok-clause-stated c =
    clauses_stated c.args.ops.now c.args.text.now c.state_clauses.new.names c.in-Ok.tokens c.in-Ok.ensures.ok.0 c.in-Ok.ensures.ok.1 c.state_clauses.result c.state_clauses.ensures.stated

pub returns-in-Err-clause-stated : goal.returns-in-Err-clause-stated
returns-in-Err-clause-stated c =
    token_fault_told c.args.ops.now c.args.text.now c.args.names.now c.in-Err.fault c.place_of_token_fault.result c.line_of-line.result c.undivided.result
    c.in-Err.ensures.err c.place_of_token_fault.ensures c.line_of-line.ensures.line c.undivided.ensures

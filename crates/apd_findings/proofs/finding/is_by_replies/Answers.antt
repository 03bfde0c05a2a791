use Rattle.apd_clauses.specs.Clauses.{tuples_of}
use Rattle.apd_findings.proofs.Among.{candidates-by}
use Rattle.apd_findings.proofs.Calls.{uncovered-by, wrong-by}
use Rattle.apd_findings.proofs.finding.is_by_replies.Goals as goal

pub returns-in-WrongInstance : goal.returns-in-WrongInstance
returns-in-WrongInstance c =
    wrong-by (tuples_of c.args.program.now) c.args.record.now c.args.answers.now c.args.finding.now c.in-WrongInstance.clause c.in-WrongInstance.tuple c.is_wrong.result c.in-WrongInstance.is c.is_wrong.ensures

pub returns-in-Uncovered : goal.returns-in-Uncovered
returns-in-Uncovered c =
    uncovered-by (tuples_of c.args.program.now) c.args.record.now c.args.answers.now c.args.finding.now c.in-Uncovered.goal c.is_uncovered.result c.in-Uncovered.is c.is_uncovered.ensures

pub returns-in-Candidates : goal.returns-in-Candidates
returns-in-Candidates c =
    candidates-by (tuples_of c.args.program.now) c.args.record.now c.args.answers.now c.args.finding.now c.in-Candidates.instances c.are_candidates_by_replies.result c.in-Candidates.is
    (rw c.as_slice.ensures at c.are_candidates_by_replies.ensures)

use Rattle.apd_clauses.specs.Clauses.{tuples_of}
use Rattle.apd_findings.proofs.Granted.{no-body, no-instance, wrong-if}
use Rattle.apd_findings.proofs.wrong.is_wrong.Goals as goal

pub returns-then-not-branch : goal.returns-then-not-branch
returns-then-not-branch c =
    no-instance (tuples_of c.args.program.now) c.args.record.now c.args.answers.now c.args.clause c.args.tuple.now c.in_ok-is_instance_of.field-0 c.in_ok-is_instance_of.ensures c.if-not-branch.true

pub returns-then-not-branch-2 : goal.returns-then-not-branch-2
returns-then-not-branch-2 c =
    no-body (tuples_of c.args.program.now) c.args.record.now c.args.answers.now c.args.clause c.args.tuple.now c.in_ok-are_true.field-0 (rw c.as_slice.ensures at c.in_ok-are_true.ensures) c.if-not-branch-2.true

pub returns : goal.returns
returns c =
    wrong-if (tuples_of c.args.program.now) c.args.record.now c.args.answers.now c.args.clause c.args.tuple.now c.in_ok-is_instance_of.field-0 c.in_ok-are_true.field-0 c.says_no.result
    c.in_ok-is_instance_of.ensures c.if-not-branch.false (rw c.as_slice.ensures at c.in_ok-are_true.ensures) c.if-not-branch-2.false c.says_no.ensures

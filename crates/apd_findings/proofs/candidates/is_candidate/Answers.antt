use Rattle.apd_clauses.specs.Clauses.{tuples_of}
use Rattle.apd_findings.proofs.Among.{candidate-by, no-instance}
use Rattle.apd_findings.proofs.candidates.is_candidate.Goals as goal

pub returns-then-not-branch : goal.returns-then-not-branch
returns-then-not-branch c =
    no-instance (tuples_of c.args.program.now) c.args.support.now.record.now c.args.support.now.answers.now c.args.support.now.later.now c.args.instance.now c.in_ok-is_instance_of.field-0 c.in_ok-is_instance_of.ensures c.if-not-branch.true

pub returns : goal.returns
returns c =
    candidate-by (tuples_of c.args.program.now) c.args.support.now.record.now c.args.support.now.answers.now c.args.support.now.later.now c.args.instance.now c.in_ok-is_instance_of.field-0 c.are_supported.result c.in_ok-is_instance_of.ensures c.if-not-branch.false
    (rw c.as_slice.ensures at c.are_supported.ensures)

use Rattle.std.proofs.Common.{◌+◌, arith}
use Rattle.apd_findings.specs.Granting.{IsAnsweredIn}
use Rattle.apd_findings.proofs.Each.{fails-not, none-more}
use Rattle.apd_findings.proofs.Granted.{answered-here, none-answered}
use Rattle.apd_findings.proofs.granting.is_answered.Goals as goal

pub returns-then-branch : goal.returns-then-branch
returns-then-branch c = answered-here c.args.record.now c.args.atom.now (c.boxes.i + 1) c.in_ok-is_answered_in.field-0 c.in_ok-is_answered_in.ensures c.if-branch.true

pub boxes-preserved : goal.boxes-preserved
boxes-preserved c =
    none-more (λ j. IsAnsweredIn c.args.record.now c.args.atom.now (j + 1)) c.boxes.i c.boxes.invariant
    (fails-not c.in_ok-is_answered_in.field-0 (IsAnsweredIn c.args.record.now c.args.atom.now (c.boxes.i + 1)) c.if-branch.false c.in_ok-is_answered_in.ensures)

pub returns : goal.returns
returns c = none-answered c.args.record.now c.args.atom.now c.boxes.i (omega (arith, c.boxes-test.false)) c.boxes.invariant

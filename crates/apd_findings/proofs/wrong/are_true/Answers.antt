use Rattle.std.proofs.Common.{arith}
use Rattle.apd_answers.specs.Findings.{IsTrueWhere}
use Rattle.apd_answers.specs.Trust.{IsGranted}
use Rattle.apd_findings.proofs.Each.{each-ends, each-fails, each-goes}
use Rattle.apd_findings.proofs.wrong.are_true.Goals as goal

pub returns-then-not-branch : goal.returns-then-not-branch
returns-then-not-branch c =
    each-fails (IsTrueWhere (IsGranted c.args.record.now c.args.answers.now)) c.args.atoms.now c.atoms.atom-index c.atom-item.result c.in_ok-is_true.field-0 c.atoms.invariant (omega (arith, c.atoms-test.true)) c.atom-item.is c.in_ok-is_true.ensures
    c.if-not-branch.true

pub atoms-preserved : goal.atoms-preserved
atoms-preserved c =
    each-goes (IsTrueWhere (IsGranted c.args.record.now c.args.answers.now)) c.args.atoms.now c.atoms.atom-index c.atom-item.result c.in_ok-is_true.field-0 c.atoms.invariant (omega (arith, c.atoms-test.true)) c.atom-item.is c.in_ok-is_true.ensures
    c.if-not-branch.false

pub returns : goal.returns
returns c = each-ends (IsTrueWhere (IsGranted c.args.record.now c.args.answers.now)) c.args.atoms.now c.atoms.atom-index c.atoms.invariant (omega (arith, c.atoms-test.false))

use Rattle.apd_findings.proofs.Granted.{granted-by, granted-not, granted-yes}
use Rattle.apd_findings.proofs.granting.is_granted.Goals as goal

pub returns-then-branch : goal.returns-then-branch
returns-then-branch c = granted-yes c.args.record.now c.args.answers.now c.args.atom.now c.in_ok-says_yes.field-0 c.in_ok-says_yes.ensures c.if-branch.true

pub returns-then-not-is_trusted : goal.returns-then-not-is_trusted
returns-then-not-is_trusted c =
    granted-not c.args.record.now c.args.answers.now c.args.atom.now c.in_ok-says_yes.field-0 c.is_trusted.result c.in_ok-says_yes.ensures c.if-branch.false c.is_trusted.ensures c.if-not-is_trusted.true

pub returns : goal.returns
returns c =
    granted-by c.args.record.now c.args.answers.now c.args.atom.now c.in_ok-says_yes.field-0 c.is_trusted.result c.is_answered.result c.in_ok-says_yes.ensures c.if-branch.false c.is_trusted.ensures c.if-not-is_trusted.false
    c.is_answered.ensures

use Rattle.apd_findings.proofs.Among.{supported-by, supported-yes}
use Rattle.apd_findings.proofs.candidates.is_granted_or_later.Goals as goal

pub returns-then-branch : goal.returns-then-branch
returns-then-branch c = supported-yes c.args.support.now.record.now c.args.support.now.answers.now c.args.support.now.later.now c.args.atom.now c.in_ok-is_granted.field-0 c.in_ok-is_granted.ensures c.if-branch.true

pub returns : goal.returns
returns c = supported-by c.args.support.now.record.now c.args.support.now.answers.now c.args.support.now.later.now c.args.atom.now c.in_ok-is_granted.field-0 c.is_head_among.result c.in_ok-is_granted.ensures c.if-branch.false c.is_head_among.ensures

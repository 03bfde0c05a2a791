use Rattle.apd_findings.proofs.Granted.{not-own, own-by}
use Rattle.apd_findings.proofs.granting.is_answered_in.Goals as goal

pub returns-then-not-is_user : goal.returns-then-not-is_user
returns-then-not-is_user c = not-own c.args.record.now c.args.box_no c.args.atom.now c.is_user.result c.is_user.ensures c.if-not-is_user.true

pub returns : goal.returns
returns c = own-by c.args.record.now c.args.box_no c.args.atom.now c.is_user.result c.has_exit.result c.requires c.is_user.ensures c.if-not-is_user.false c.has_exit.ensures

use Rattle.std.proofs.Common.{sym}
use Rattle.apd_session.proofs.Demos.{not_counted}
use Rattle.apd_session.proofs.demo.with_question.Goals as goal

pub returns-in_default : goal.returns-in_default
returns-in_default c = sym (not_counted c.args.entry.now c.args.count c.in_default.not-Question)

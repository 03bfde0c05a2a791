use Rattle.std.proofs.Common.{sym, ◌∙◌}
use Rattle.apd_findings.proofs.Granted.{no-predicate}
use Rattle.apd_findings.proofs.granting.is_trusted.Goals as goal

pub returns-in-None : goal.returns-in-None
returns-in-None c = no-predicate c.args.atom.now c.args.answers.now.trusted (sym c.pred.ensures ∙ c.in-None.is)

use Rattle.apd_answers.specs.Trust.{IsGranted}
use Rattle.apd_findings.proofs.Granted.{where-builtin, where-own}
use Rattle.apd_findings.proofs.wrong.is_true.Goals as goal

pub returns-in-Some : goal.returns-in-Some
returns-in-Some c = where-builtin (IsGranted c.args.record.now c.args.answers.now) c.args.atom.now c.of_atom.result _ c.stands.result c.of_atom.ensures c.in-Some.is c.stands.ensures

pub returns-in-None : goal.returns-in-None
returns-in-None c = where-own (IsGranted c.args.record.now c.args.answers.now) c.args.atom.now c.of_atom.result c.is_granted.result c.of_atom.ensures c.in-None.is c.is_granted.ensures

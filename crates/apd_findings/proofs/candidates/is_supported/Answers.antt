use Rattle.std.proofs.Common.{◌⊎◌}
use Rattle.apd_answers.specs.Findings.{IsHeadAmong}
use Rattle.apd_answers.specs.Trust.{IsGranted}
use Rattle.apd_findings.proofs.Granted.{where-builtin, where-own}
use Rattle.apd_findings.proofs.candidates.is_supported.Goals as goal

pub returns-in-Some : goal.returns-in-Some
returns-in-Some c =
    where-builtin (λ a. IsGranted c.args.support.now.record.now c.args.support.now.answers.now a ⊎ IsHeadAmong c.args.support.now.later.now a) c.args.atom.now c.of_atom.result _ c.stands.result c.of_atom.ensures c.in-Some.is c.stands.ensures

pub returns-in-None : goal.returns-in-None
returns-in-None c =
    where-own (λ a. IsGranted c.args.support.now.record.now c.args.support.now.answers.now a ⊎ IsHeadAmong c.args.support.now.later.now a) c.args.atom.now c.of_atom.result c.is_granted_or_later.result c.of_atom.ensures c.in-None.is c.is_granted_or_later.ensures

use Rattle.std.proofs.Common.{◌⊎◌, ◌↔◌, drop}
use Rattle.std.specs.List.{AllByRecursion}
use Rattle.apd_answers.specs.Findings.{IsHeadAmong, IsTrueWhere}
use Rattle.apd_answers.specs.Trust.{IsGranted}
use Rattle.apd_findings.proofs.candidates.are_supported.Given as goal

abbrev pub invariant-atoms : goal.invariant-atoms
invariant-atoms l =
    AllByRecursion (IsTrueWhere (λ a. IsGranted l.support.record.now l.support.answers.now a ⊎ IsHeadAmong l.support.later.now a)) l.atoms
    ↔ AllByRecursion (IsTrueWhere (λ a. IsGranted l.support.record.now l.support.answers.now a ⊎ IsHeadAmong l.support.later.now a)) (drop l.atom-index l.atoms)

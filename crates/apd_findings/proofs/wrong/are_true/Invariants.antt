use Rattle.std.proofs.Common.{◌↔◌, drop}
use Rattle.std.specs.List.{AllByRecursion}
use Rattle.apd_answers.specs.Findings.{IsTrueWhere}
use Rattle.apd_answers.specs.Trust.{IsGranted}
use Rattle.apd_findings.proofs.wrong.are_true.Given as goal

abbrev pub invariant-atoms : goal.invariant-atoms
invariant-atoms l = AllByRecursion (IsTrueWhere (IsGranted l.record l.answers)) l.atoms ↔ AllByRecursion (IsTrueWhere (IsGranted l.record l.answers)) (drop l.atom-index l.atoms)

use Rattle.std.proofs.Common.{◌≡◌, drop}
use Rattle.std.specs.List.{list_all}
use Rattle.apd_findings.specs.Deciding.{affirms}
use Rattle.apd_findings.proofs.affirming.affirms_all.Given as goal

abbrev pub invariant-atoms : goal.invariant-atoms
invariant-atoms l = list_all (affirms l.answers) l.atoms ≡ list_all (affirms l.answers) (drop l.atom-index l.atoms)

use Rattle.std.proofs.Common.{◌≡◌, take}
use Rattle.std.proofs.Common.{◌∷◌}
use Rattle.apd_findings.proofs.wrong.as_term.Given as goal

abbrev pub invariant-atoms : goal.invariant-atoms
invariant-atoms l = l.parts ≡ l.tuple.head ∷ take l.atom-index l.tuple.body

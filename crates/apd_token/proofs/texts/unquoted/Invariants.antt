use Rattle.std.proofs.Common.{length, ◌-◌, ◌+◌}
use Rattle.apd_token.specs.Scan.{InBody}
use Rattle.apd_token.proofs.texts.unquoted.Given as goal

abbrev pub invariant-elements : goal.invariant-elements
invariant-elements l = InBody l.text (l.at + 1) l.i l.q l.out

abbrev pub decreases-elements : goal.decreases-elements
decreases-elements l = length l.text - l.i

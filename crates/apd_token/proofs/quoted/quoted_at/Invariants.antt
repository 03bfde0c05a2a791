use Rattle.std.proofs.Common.{length, ◌-◌, List, ℕ, ◌+◌}
use Rattle.apd_token.specs.Scan.{InBody}
use Rattle.apd_token.proofs.quoted.quoted_at.Given as goal

abbrev pub invariant-elements : goal.invariant-elements
invariant-elements l = (out : List ℕ) × InBody l.text (l.at + 1) l.i l.q out

abbrev pub decreases-elements : goal.decreases-elements
decreases-elements l = length l.text - l.i

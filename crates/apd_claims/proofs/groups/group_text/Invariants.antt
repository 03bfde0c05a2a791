use Rattle.std.proofs.Common.{◌≡◌, ◌++◌, length}
use Rattle.apd_console.specs.Lines.{lines_of}
use Rattle.apd_claims.specs.Saying.{candidates_text, group_text}
use Rattle.apd_claims.proofs.groups.group_text.Given as goal

abbrev pub invariant-lines : goal.invariant-lines
invariant-lines l = l.text ++ candidates_text (lines_of l.left) ≡ group_text l.line (lines_of l.rest)

abbrev pub decreases-lines : goal.decreases-lines
decreases-lines l = length l.left

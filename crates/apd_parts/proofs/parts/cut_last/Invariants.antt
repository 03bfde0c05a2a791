use Rattle.std.proofs.Common.{◌≡◌, ◌≤◌, drop, length, None}
use Rattle.apd_parts.specs.Parts.{cut_last}
use Rattle.apd_parts.proofs.parts.cut_last.Given as goal

abbrev pub invariant-places : goal.invariant-places
invariant-places l = (l.i ≤ length l.text) × (cut_last l.bytes (drop l.i l.text) ≡ None)

abbrev pub decreases-places : goal.decreases-places
decreases-places l = l.i

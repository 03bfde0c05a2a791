use Rattle.std.proofs.Common.{◌≡◌, ◌≤◌, ◌+◌, ◌-◌, drop, length}
use Rattle.apd_parts.specs.Parts.{digits_first}
use Rattle.apd_parts.proofs.boxes.digits_first.Given as goal

abbrev pub invariant-digits : goal.invariant-digits
invariant-digits l = (digits_first l.text ≡ l.count + digits_first (drop l.count l.text)) × (l.count ≤ length l.text)

abbrev pub decreases-digits : goal.decreases-digits
decreases-digits l = length l.text - l.count

use Rattle.std.proofs.Common.{◌≡◌, ◌≤◌, length, drop}
use Rattle.apd_console.specs.Lines.{lines_of}
use Rattle.apd_by_definition.proofs.console.lines_of.Given as goal

abbrev pub invariant-bytes : goal.invariant-bytes
invariant-bytes l = (l.at ≤ length l.bytes) × (l.lines.items ≡ lines_of (drop l.at l.bytes))

abbrev pub decreases-bytes : goal.decreases-bytes
decreases-bytes l = l.at

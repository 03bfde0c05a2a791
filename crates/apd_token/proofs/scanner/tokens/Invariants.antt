use Rattle.std.proofs.Common.{length, ◌-◌}
use Rattle.apd_token.proofs.Reading.{ReadTo}
use Rattle.apd_token.proofs.scanner.tokens.Given as goal

abbrev pub invariant-pieces : goal.invariant-pieces
invariant-pieces l = ReadTo l.text l.out l.at l.spaced

abbrev pub decreases-pieces : goal.decreases-pieces
decreases-pieces l = length l.text - l.at

use Rattle.std.proofs.Common.{◌-◌, length}
use Rattle.apd_read.specs.Variables.{IsIndexed}
use Rattle.apd_read.proofs.Clauses.{IsTaken}
use Rattle.apd_read.proofs.lexemes.push_lexemes.Given as goal

abbrev pub invariant-tokens : goal.invariant-tokens
invariant-tokens l = IsTaken l.fn.names l.names l.text l.tokens l.at l.i l.lexemes.items l.vars.texts × IsIndexed l.vars.named l.vars.places.items l.vars.texts

abbrev pub decreases-tokens : goal.decreases-tokens
decreases-tokens l = length l.tokens - l.i

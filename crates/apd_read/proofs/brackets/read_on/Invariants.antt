use Rattle.std.proofs.Common.{◌+◌, ◌-◌, length}
use Rattle.apd_read.specs.State.{IsReady}
use Rattle.apd_read.proofs.brackets.read_on.Given as goal

abbrev pub invariant-lexemes : goal.invariant-lexemes
invariant-lexemes l = IsReady l.ops l.lexemes l.state l.last

abbrev pub decreases-lexemes : goal.decreases-lexemes
decreases-lexemes l = length l.lexemes + 2 - l.state.at

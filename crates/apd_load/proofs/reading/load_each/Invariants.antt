use Rattle.std.proofs.Common.{◌-◌, length}
use Rattle.apd_load.proofs.Reaching.{Goes}
use Rattle.apd_load.proofs.reading.load_each.Given as goal

abbrev pub invariant-clauses : goal.invariant-clauses
invariant-clauses l = Goes l.text l.tokens l.at l.fn.names l.names l.loading l.last

abbrev pub decreases-clauses : goal.decreases-clauses
decreases-clauses l = length l.tokens - l.at

use Rattle.std.proofs.Common.{◌-◌, length}
use Rattle.apd_known.proofs.Reaching.{Goes}
use Rattle.apd_known.proofs.file.state_clauses.Given as goal

abbrev pub invariant-clauses : goal.invariant-clauses
invariant-clauses l = Goes l.ops l.text l.tokens l.at l.fn.names l.names l.stated l.last

abbrev pub decreases-clauses : goal.decreases-clauses
decreases-clauses l = length l.tokens - l.at

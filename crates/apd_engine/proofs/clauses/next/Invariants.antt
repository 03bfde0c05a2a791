use Rattle.std.proofs.Common.{◌-◌, ◌≤◌, length}
use Rattle.apd_engine.specs.Search.{PassesBy}
use Rattle.apd_engine.proofs.clauses.next.Given as goal

abbrev pub invariant-clauses : goal.invariant-clauses
invariant-clauses l = (l.from ≤ l.at) × PassesBy l.program l.pred l.key l.from l.at

abbrev pub decreases-clauses : goal.decreases-clauses
decreases-clauses l = length l.numbers - l.at

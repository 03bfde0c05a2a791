use Rattle.std.proofs.Common.{◌≡◌, ◌+◌, ◌-◌, ◌*◌, ◌≤◌, length, drop}
use Rattle.apd_clauses.specs.Clauses.{clauses_for, tuples_of}
use Rattle.apd_trace.specs.Trace.{and_then, search_from, tries}
use Rattle.apd_by_definition.specs.Searched.{out_of}
use Rattle.apd_by_definition.proofs.engine.search.+search.Given as goal

abbrev pub decreases-search_from : goal.decreases-search_from
decreases-search_from l = 6 * l.depth

abbrev pub decreases-begun : goal.decreases-begun
decreases-begun l = 6 * l.depth + 1

abbrev pub decreases-hand : goal.decreases-hand
decreases-hand l = 6 * l.depth + 1

abbrev pub decreases-tried : goal.decreases-tried
decreases-tried l = 6 * l.depth + 2

abbrev pub decreases-succeeded : goal.decreases-succeeded
decreases-succeeded l = 6 * l.depth + 2

abbrev pub decreases-tries : goal.decreases-tries
decreases-tries l = 6 * l.depth + 3

abbrev pub decreases-settled : goal.decreases-settled
decreases-settled l = 6 * l.depth + 4

abbrev pub decreases-turn : goal.decreases-turn
decreases-turn l = 6 * l.depth + 5

abbrev pub invariant-tries-clauses : goal.invariant-tries-clauses
invariant-tries-clauses l = record {
  made : tries (search_from (tuples_of l.program) l.depth) l.place.frames l.g (clauses_for l.g.atom (tuples_of l.program)) l.fn.counts.boxes l.fn.counts.points
      ≡ and_then (out_of l.out) (tries (search_from (tuples_of l.program) l.depth) l.place.frames l.g (drop l.at (clauses_for l.g.atom (tuples_of l.program))));
  boxes : l.fn.counts.boxes ≤ l.out.counts.boxes;
}

abbrev pub decreases-tries-clauses : goal.decreases-tries-clauses
decreases-tries-clauses l = length l.numbers - l.at

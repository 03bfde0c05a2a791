use Rattle.std.proofs.Common.{◌≡◌, ◌-◌, drop, length}
use Rattle.std.specs.List.{list_all}
use Rattle.apd_clauses.specs.Clauses.{clauses_from, tuples_of}
use Rattle.apd_term.specs.declared.tuple.Tuple.{Tuple}
use Rattle.std.proofs.Common.{ℕ}
use Rattle.apd_findings.specs.Deciding.{covers_not}
use Rattle.apd_findings.proofs.closing.none_covers_of.Given as goal

abbrev pub invariant-clauses : goal.invariant-clauses
invariant-clauses l =
    list_all (covers_not l.answers l.goal) (tuples_of l.program)
    ≡ list_all (λ (x : ℕ × Tuple). covers_not l.answers l.goal x.1) (drop l.at (clauses_from 1 l.pred (tuples_of l.program)))

abbrev pub decreases-clauses : goal.decreases-clauses
decreases-clauses l = length l.numbers - l.at

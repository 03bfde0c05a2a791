use Rattle.std.proofs.Common.{drop}
use Rattle.apd_past.specs.Tuples.{terms_at, tuple_at}
use Rattle.apd_past.proofs.Tuples.{IsWriting}
use Rattle.apd_past.proofs.then.Then.tuple.Given as goal

abbrev pub invariant-goals : goal.invariant-goals
invariant-goals l = IsWriting (tuple_at l.self l.fn.head.0 l.goals) l.page (terms_at l.self (drop l.goal-index l.goals)) l.body

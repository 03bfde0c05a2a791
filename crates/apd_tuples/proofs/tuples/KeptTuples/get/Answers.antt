use Rattle.std.proofs.Common.{◌<◌, ◌∙◌, ap, subst, sym, length}
use Rattle.apd_term.specs.Tuple.{canonical_tuple}
use Rattle.apd_cells.specs.Stored.{Stored}
use Rattle.apd_past.specs.Tuples.{AreInside, tuple_at}
use Rattle.apd_tuples.specs.Spots.{spot_at}
use Rattle.apd_tuples.specs.Tuples.{IsThere}
use Rattle.apd_tuples.proofs.Standing.{got_none, got_some, there_get}
use Rattle.apd_tuples.proofs.tuples.KeptTuples.get.Goals as goal

pub tuple-requires-clause-head : goal.tuple-requires-clause-head
tuple-requires-clause-head c =
    let there : IsThere c.self.inside.past (spot_at c.in-Some.spot) = there_get c.self.inside.past c.self.inside.spots c.args.number (spot_at c.in-Some.spot) c.self.invariant c.in-Some.ensures in
    subst (λ (s : Stored). c.in-Some.spot.head.0 < length s.cells) (sym c.at-then.ensures) there.head

pub tuple-requires-clause-goals : goal.tuple-requires-clause-goals
tuple-requires-clause-goals c =
    let there : IsThere c.self.inside.past (spot_at c.in-Some.spot) = there_get c.self.inside.past c.self.inside.spots c.args.number (spot_at c.in-Some.spot) c.self.invariant c.in-Some.ensures in
    subst (λ (s : Stored). AreInside (length s.cells) c.in-Some.spot.goals.now) (sym c.at-then.ensures) there.goals

pub returns-in-None : goal.returns-in-None
returns-in-None c = got_none c.self.inside.past c.self.inside.spots c.args.number c.args.self.now c.self.view_is c.in-None.ensures

pub returns-in_ok-tuple-in-Some : goal.returns-in_ok-tuple-in-Some
returns-in_ok-tuple-in-Some c =
    got_some c.self.inside.past c.self.inside.spots c.args.number c.args.self.now (spot_at c.in-Some.spot) c.in_ok-tuple-in-Some.tuple c.self.view_is c.in-Some.ensures
    (c.in_ok-tuple-in-Some.ensures ∙ ap (λ (s : Stored). canonical_tuple (tuple_at s c.in-Some.spot.head.0 c.in-Some.spot.goals.now)) c.at-then.ensures)

use Rattle.std.proofs.Common.{◌≡◌, ◌<◌, None, ◌∙◌, ap, subst, sym, length}
use Rattle.std.specs.Prelude.{IfSome}
use Rattle.apd_term.specs.Term.{predicate_of}
use Rattle.apd_term.specs.declared.tuple.Tuple.{Tuple}
use Rattle.apd_cells.specs.Stored.{Stored}
use Rattle.apd_cells.specs.Store.{term_at}
use Rattle.apd_cells.proofs.Keys.{first_symbol-end}
use Rattle.apd_tuples.specs.Spots.{spot_at}
use Rattle.apd_tuples.specs.Tuples.{IsThere}
use Rattle.apd_tuples.proofs.Standing.{got_none, there_get}
use Rattle.apd_tuples.proofs.Predicates.{predicate-kept}
use Rattle.apd_tuples.proofs.tuples.KeptTuples.pred.Goals as goal

pub follow-at-requires : goal.follow-at-requires
follow-at-requires c =
    let there : IsThere c.self.inside.past (spot_at c.in-Some.spot) = there_get c.self.inside.past c.self.inside.spots c.args.number (spot_at c.in-Some.spot) c.self.invariant c.in-Some.ensures in
    subst (λ (s : Stored). c.in-Some.spot.head.0 < length s.cells) (sym c.at-then.ensures) there.head

pub returns-in-None : goal.returns-in-None
returns-in-None c =
    subst (λ o. IfSome o (λ (t : Tuple). None ≡ predicate_of t.head)) (got_none c.self.inside.past c.self.inside.spots c.args.number c.args.self.now c.self.view_is c.in-None.ensures) tt

pub returns-in-Some : goal.returns-in-Some
returns-in-Some c =
    let s = c.at-then.result in
    let first = first_symbol-end s c.follow-at.result c.follow-at.ensures.store c.follow-at.ensures.inside c.follow-at.ensures.end ∙ sym c.symbol.ensures.symbol in
    let is = c.pred_of.ensures (term_at s c.follow-at.result) first ∙ ap predicate_of c.follow-at.ensures.same ∙ ap (λ (z : Stored). predicate_of (term_at z c.in-Some.spot.head.0)) c.at-then.ensures in
    predicate-kept c.self.inside.past c.self.inside.spots c.args.number c.args.self.now (spot_at c.in-Some.spot) c.pred_of.result c.self.view_is c.in-Some.ensures is

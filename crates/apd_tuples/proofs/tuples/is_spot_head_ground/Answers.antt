use Rattle.std.proofs.Common.{subst}
use Rattle.std.specs.List.{flat_map}
use Rattle.std.proofs.lemmas.Bool.{OnTrue_at, OnTrue_from}
use Rattle.apd_term.specs.Term.{variables, IsGround}
use Rattle.apd_cells.specs.Stored.{Stored}
use Rattle.apd_cells.specs.Store.{term_at}
use Rattle.apd_past.specs.History.{at_moment}
use Rattle.apd_past.specs.Tuples.{tuple_at}
use Rattle.apd_tuples.specs.Spots.{spot_at}
use Rattle.apd_tuples.specs.Tuples.{kept_tuple, Holds}
use Rattle.apd_tuples.proofs.Grounds.{both_empty, ground_head}
use Rattle.apd_tuples.proofs.tuples.is_spot_head_ground.Goals as goal

pub returns-in-Ground : goal.returns-in-Ground
returns-in-Ground c =
    let t = kept_tuple c.args.past.now (spot_at c.args.spot.now) in
    (both_empty (variables t.head) (flat_map variables t.body) (subst (λ f. Holds f t) c.in-Ground.is c.requires.fact)).0

pub returns-in_default : goal.returns-in_default
returns-in_default c =
    let p = spot_at c.args.spot.now in
    OnTrue_from c.is_seen_ground.result (IsGround (kept_tuple c.args.past.now p).head) (λ e.
    ground_head (tuple_at (at_moment p.moment c.args.past.now) p.head.0 p.goals)
    (subst (λ (s : Stored). IsGround (term_at s p.head.0)) c.at.ensures (OnTrue_at e c.is_seen_ground.ensures)))

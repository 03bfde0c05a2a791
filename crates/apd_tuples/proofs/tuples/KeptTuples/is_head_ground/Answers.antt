use Rattle.std.proofs.Common.{subst}
use Rattle.std.specs.Bool.{OnTrue}
use Rattle.apd_term.specs.Term.{IsGround}
use Rattle.apd_term.specs.declared.tuple.Tuple.{Tuple}
use Rattle.apd_tuples.specs.Spots.{spot_at}
use Rattle.apd_tuples.proofs.Standing.{got_tuple, there_get}
use Rattle.apd_tuples.proofs.tuples.KeptTuples.is_head_ground.Goals as goal

pub is_spot_head_ground-requires : goal.is_spot_head_ground-requires
is_spot_head_ground-requires c = there_get c.self.inside.past c.self.inside.spots c.args.number (spot_at c.in-Some.spot) c.self.invariant c.in-Some.ensures

pub returns-in-Some : goal.returns-in-Some
returns-in-Some c = λ t is.
    subst (λ (z : Tuple). OnTrue c.is_spot_head_ground.result (IsGround z.head))
    (got_tuple c.self.inside.past c.self.inside.spots c.args.number c.args.self.now (spot_at c.in-Some.spot) c.self.view_is c.in-Some.ensures t is)
    c.is_spot_head_ground.ensures

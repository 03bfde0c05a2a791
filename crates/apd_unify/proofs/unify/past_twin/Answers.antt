use Rattle.std.proofs.Common.{refl}
use Rattle.apd_cells.proofs.Skipping.{two_inside}
use Rattle.apd_unify.proofs.Twins.{past_twin_is}
use Rattle.apd_unify.proofs.unify.past_twin.Goals as goal

pub is_twin-requires : goal.is_twin-requires
is_twin-requires c = two_inside c.args.heap.now.cells c.args.here.a c.args.here.left c.requires.right.left_run c.if-here-gt1.true

pub is_twin-requires-then-is_twin : goal.is_twin-requires-then-is_twin
is_twin-requires-then-is_twin c = two_inside c.args.heap.now.cells c.args.here.b c.args.here.left c.requires.right.right_run c.if-here-gt1.true

pub returns-then-is_twin-2 : goal.returns-then-is_twin-2
returns-then-is_twin-2 c =
    past_twin_is c.args.heap.now c.args.here _ c.if-is_twin.ensures.store c.requires.right c.if-here-gt1.true c.if-is_twin.ensures.twin c.if-is_twin-2.ensures.twin refl

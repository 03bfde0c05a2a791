use Rattle.std.proofs.Common.{arith, refl}
use Rattle.apd_cells.specs.Work.{walk_symbols}
use Rattle.apd_cells.proofs.Skipping.{two_inside, same_at_first, same_then, skipped}
use Rattle.apd_cells.proofs.walk.Walk.skip_twins.Goals as goal

pub twins-init : goal.twins-init
twins-init c = record { right = c.requires; same = same_at_first (walk_symbols c.args.heap.now c.args.self.now) }

pub is_twin-requires : goal.is_twin-requires
is_twin-requires c = two_inside c.args.heap.now.cells c.twins.self.at c.twins.self.left c.twins.invariant.right.here c.twins-test.true

pub overflow_add-self : goal.overflow_add-self
overflow_add-self c =
    let inside = two_inside c.args.heap.now.cells c.twins.self.at c.twins.self.left c.twins.invariant.right.here c.twins-test.true in
    omega (arith, inside, c.is_twin.ensures.fits)

pub twins-preserved : goal.twins-preserved
twins-preserved c =
    let more = skipped c.args.heap.now c.twins.self _ c.is_twin.ensures.store c.twins.invariant.right c.twins-test.true c.if-is_twin.ensures.twin refl in
    record {
      right = more.right;
      same = same_then (walk_symbols c.args.heap.now c.args.self.now) (walk_symbols c.args.heap.now c.twins.self) _ c.twins.invariant.same more.same;
    }

use Rattle.std.proofs.Common.{arith, refl}
use Rattle.apd_cells.proofs.Passing.{run_inside}
use Rattle.apd_resolved.proofs.Counts.{extent_behind, led_elsewhere, passes_known, passes_last, passes_symbol}
use Rattle.apd_resolved.proofs.counting.pass_part.Goals as goal

pub overflow_add-next : goal.overflow_add-next
overflow_add-next c = omega (arith, run_inside c.args.heap.now.cells c.args.here.at c.args.here.left c.requires.right.0 c.requires.some, c.follow-at.ensures.fits)

pub returns-in-Some : goal.returns-in-Some
returns-in-Some c =
    passes_known c.args.heap.now c.args.here _ c.args.rest.now c.in-Some.extent c.follow-at.ensures.store c.requires.right c.requires.some
    (led_elsewhere c.args.heap.now c.args.here.at c.follow-at.result c.follow-at.ensures.start c.if-at-here.true)
    (extent_behind c.args.heap.now c.args.here.at c.follow-at.result c.in-Some.extent (run_inside c.args.heap.now.cells c.args.here.at c.args.here.left c.requires.right.0 c.requires.some) c.follow-at.ensures.same c.in-Some.ensures)
    refl

pub returns-in-Some-known : goal.returns-in-Some-known
returns-in-Some-known c =
    passes_last c.args.heap.now c.args.here _ c.args.rest.now c.in-Some-known.extent c.requires.right c.if-here-eq1.true
    (extent_behind c.args.heap.now c.args.here.at c.follow-at.result c.in-Some-known.extent (run_inside c.args.heap.now.cells c.args.here.at c.args.here.left c.requires.right.0 c.requires.some) c.follow-at.ensures.same c.in-Some-known.ensures)
    refl

pub returns : goal.returns
returns c =
    passes_symbol c.args.heap.now _ _ c.in_ok-passed.passed.symbol c.in_ok-extent_of.field-0 c.in_ok-passed.ensures c.in_ok-extent_of.ensures

use Rattle.std.proofs.Common.{[], ◌+◌, ◌-◌, arith, inl, inr, refl}
use Rattle.apd_cells.proofs.Passing.{left_fits, passed_here, run_inside}
use Rattle.apd_resolved.proofs.Counts.{extent_behind, led_elsewhere, passes_known, passes_symbol}
use Rattle.apd_resolved.proofs.quick.known_part.Goals as goal

pub overflow_add-next-then-at-here : goal.overflow_add-next-then-at-here
overflow_add-next-then-at-here c =
    let s = c.args.heap.now in
    let k = passed_here s c.args.here (record { at = c.args.here.at + 1; left = c.args.here.left - 1 + c.arity_of-arity.result }) [] c.follow-at.result c.arity_of-arity.result c.symbol-symbol.result
    c.follow-at.ensures.store c.requires.right c.requires.some
    (record { inside = c.follow-at.ensures.inside; same = c.follow-at.ensures.same; end = c.follow-at.ensures.end; start = c.follow-at.ensures.start })
    c.symbol-symbol.ensures.symbol c.arity_of-arity.ensures (elim c.then-at-here.either [ inl e ↦ inl e | inr z ↦ inr z.1 ]) refl in
    omega (arith, left_fits s.cells (c.args.here.at + 1) (c.args.here.left - 1 + c.arity_of-arity.result) k.right.0, c.follow-at.ensures.fits)

pub overflow_add-next : goal.overflow_add-next
overflow_add-next c = omega (arith, run_inside c.args.heap.now.cells c.args.here.at c.args.here.left c.requires.right.0 c.requires.some, c.follow-at.ensures.fits)

pub returns-then-at-here-clause-part : goal.returns-then-at-here-clause-part
returns-then-at-here-clause-part c =
    let s = c.args.heap.now in
    let k = passed_here s c.args.here (record { at = c.args.here.at + 1; left = c.args.here.left - 1 + c.arity_of-arity.result }) [] c.follow-at.result c.arity_of-arity.result c.symbol-symbol.result
    c.follow-at.ensures.store c.requires.right c.requires.some
    (record { inside = c.follow-at.ensures.inside; same = c.follow-at.ensures.same; end = c.follow-at.ensures.end; start = c.follow-at.ensures.start })
    c.symbol-symbol.ensures.symbol c.arity_of-arity.ensures (elim c.then-at-here.either [ inl e ↦ inl e | inr z ↦ inr z.1 ]) refl in
    passes_symbol s _ _ c.symbol-symbol.result c.in-Ok.extent k c.in-Ok.ensures

pub returns-clause-part : goal.returns-clause-part
returns-clause-part c =
    passes_known c.args.heap.now c.args.here _ [] c.in_ok-extent.extent c.follow-at.ensures.store c.requires.right c.requires.some
    (led_elsewhere c.args.heap.now c.args.here.at c.follow-at.result c.follow-at.ensures.start c.if-at-here.false)
    (extent_behind c.args.heap.now c.args.here.at c.follow-at.result c.in_ok-extent.extent (run_inside c.args.heap.now.cells c.args.here.at c.args.here.left c.requires.right.0 c.requires.some) c.follow-at.ensures.same c.in_ok-extent.ensures)
    refl

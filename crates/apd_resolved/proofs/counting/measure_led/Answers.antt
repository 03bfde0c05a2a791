use Rattle.std.proofs.Common.{[], ◌+◌, ◌-◌, ◌<◌, arith, inl, inr, refl, subst}
use Rattle.apd_term.specs.Term.{size}
use Rattle.apd_cells.proofs.Passing.{left_fits, passed_here, run_inside}
use Rattle.apd_resolved.specs.Counting.{MeasuredWithin}
use Rattle.apd_resolved.proofs.Counts.{extent_behind, led_elsewhere, over_limit, passes_known, passes_symbol}
use Rattle.apd_resolved.proofs.counting.measure_led.Goals as goal

pub overflow_add-next-then-at-here : goal.overflow_add-next-then-at-here
overflow_add-next-then-at-here c =
    let s = c.args.heap.now in
    let k = passed_here s c.args.here (record { at = c.args.here.at + 1; left = c.args.here.left - 1 + c.arity_of-arity.result }) [] c.follow-at.result c.arity_of-arity.result c.symbol-symbol.result
    c.follow-at.ensures.store c.requires.right c.requires.some
    (record { inside = c.follow-at.ensures.inside; same = c.follow-at.ensures.same; end = c.follow-at.ensures.end; start = c.follow-at.ensures.start })
    c.symbol-symbol.ensures.symbol c.arity_of-arity.ensures (elim c.then-at-here.either [ inl e ↦ inl e | inr z ↦ inr z.1 ]) refl in
    omega (arith, left_fits s.cells (c.args.here.at + 1) (c.args.here.left - 1 + c.arity_of-arity.result) k.right.0, c.follow-at.ensures.fits)

pub returns-then-at-here-clause-part : goal.returns-then-at-here-clause-part
returns-then-at-here-clause-part c =
    let s = c.args.heap.now in
    let k = passed_here s c.args.here (record { at = c.args.here.at + 1; left = c.args.here.left - 1 + c.arity_of-arity.result }) [] c.follow-at.result c.arity_of-arity.result c.symbol-symbol.result
    c.follow-at.ensures.store c.requires.right c.requires.some
    (record { inside = c.follow-at.ensures.inside; same = c.follow-at.ensures.same; end = c.follow-at.ensures.end; start = c.follow-at.ensures.start })
    c.symbol-symbol.ensures.symbol c.arity_of-arity.ensures (elim c.then-at-here.either [ inl e ↦ inl e | inr z ↦ inr z.1 ]) refl in
    passes_symbol s _ _ c.symbol-symbol.result c.in_ok-extent.extent k c.in_ok-extent.ensures

pub returns-in_default-clause-part : goal.returns-in_default-clause-part
returns-in_default-clause-part c =
    let s = c.args.heap.now in
    over_limit s c.args.here c.args.limit c.follow-at.ensures.store c.requires.right c.requires.some
    (led_elsewhere s c.args.here.at c.follow-at.result c.follow-at.ensures.start c.if-at-here.false)
    (subst (λ t. c.args.limit < size t) c.follow-at.ensures.same (subst (MeasuredWithin s c.follow-at.result c.args.limit) c.in_default.is c.in_ok-extent-2.ensures.extent))

pub returns-clause-part : goal.returns-clause-part
returns-clause-part c =
    let s = c.args.heap.now in
    passes_known s c.args.here _ [] c.in-Some.extent c.follow-at.ensures.store c.requires.right c.requires.some
    (led_elsewhere s c.args.here.at c.follow-at.result c.follow-at.ensures.start c.if-at-here.false)
    (extent_behind s c.args.here.at c.follow-at.result c.in-Some.extent (run_inside s.cells c.args.here.at c.args.here.left c.requires.right.0 c.requires.some) c.follow-at.ensures.same
    (subst (MeasuredWithin s c.follow-at.result c.args.limit) c.in-Some.is c.in_ok-extent-2.ensures.extent).0)
    refl

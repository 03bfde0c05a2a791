use Rattle.std.proofs.Common.{◌∙◌, inl, inr, ◌+◌, ◌-◌, refl, arith}
use Rattle.apd_cells.proofs.Passing.{PutBack, passed_here, passed_into, put_back, nothing_back, left_fits, passes_into}
use Rattle.apd_cells.proofs.walk.pass_from.Goals.{then-here-gt1+in_ok-push, else-here-gt1}
use Rattle.apd_cells.proofs.walk.pass_from.Goals as goal

pub overflow_add-next-then-at-here : goal.overflow_add-next-then-at-here
overflow_add-next-then-at-here c =
    let k =
    passed_here c.args.heap.now c.args.here (record { at = c.args.here.at + 1; left = c.args.here.left - 1 + c.arity_of-arity.result }) c.args.rest.now c.args.at c.arity_of-arity.result c.symbol-symbol.result
    c.symbol-symbol.ensures.store c.requires.right c.requires.some
    c.requires.leads
    c.symbol-symbol.ensures.symbol c.arity_of-arity.ensures
    (elim c.then-at-here.either [ inl e ↦ inl e | inr z ↦ inr z.1 ]) refl in
    omega (arith, left_fits c.args.heap.now.cells (c.args.here.at + 1) (c.args.here.left - 1 + c.arity_of-arity.result) k.right.0, c.requires.fits)

pub returns-then-at-here : goal.returns-then-at-here
returns-then-at-here c =
    passed_here c.args.heap.now c.args.here _ c.args.rest.now c.args.at c.arity_of-arity.result c.symbol-symbol.result
    c.symbol-symbol.ensures.store c.requires.right c.requires.some
    c.requires.leads
    c.symbol-symbol.ensures.symbol c.arity_of-arity.ensures
    (elim c.then-at-here.either [ inl e ↦ inl e | inr z ↦ inr z.1 ]) refl

pub returns : goal.returns
returns c =
    let d = c.requires.leads in
    let k = passes_into c.args.heap.now c.args.here.at c.args.here.left c.args.at c.symbol-symbol.ensures.store c.requires.right.0 c.requires.some d c.if-at-here.false in
    let back : PutBack c.args.heap.now c.args.here c.args.rest.now c.if-here-gt1.rest =
    elim c.if-here-gt1.branch [
      | then-here-gt1+in_ok-push w ↦
          put_back c.args.heap.now c.args.here c.args.rest.now c.if-here-gt1.rest (record { at = c.args.here.at + 1; left = c.args.here.left - 1 })
          c.requires.right k.rest refl (w.rest-is ∙ w.in_ok-push.ensures.ok)
      | else-here-gt1 w ↦
          nothing_back c.args.heap.now c.args.here c.args.rest.now c.if-here-gt1.rest c.requires.right w.if-here-gt1.false w.rest-is
    ] in
    passed_into c.args.heap.now c.args.here _ c.args.rest.now c.if-here-gt1.rest c.args.at c.arity_of-arity.result c.symbol-symbol.result
    c.symbol-symbol.ensures.store c.requires.right c.requires.some d
    c.symbol-symbol.ensures.symbol c.arity_of-arity.ensures c.if-at-here.false back refl

use Rattle.std.proofs.Common.{refl, arith, ◌+◌, ◌-◌, ◌∙◌}
use Rattle.apd_cells.proofs.Passing.{left_fits}
use Rattle.apd_unify.proofs.Pairing.{Waits, decomposed_equal, decomposed_there, waits_pushed, waits_same}
use Rattle.apd_unify.proofs.unify.decompose.Goals.{then-here-gt1+in_ok-push, else-here-gt1}
use Rattle.apd_unify.proofs.unify.decompose.Goals as goal

pub overflow_add-result-then-y-here-2 : goal.overflow_add-result-then-y-here-2
overflow_add-result-then-y-here-2 c =
    let k = decomposed_equal c.args.heap.now c.args.pairs.now c.args.here (record { a = c.args.x + 1; b = c.args.y + 1; left = c.args.here.left - 1 + c.args.arity })
    c.args.x c.args.y c.args.arity c.requires.store c.requires.right c.requires.some c.requires.arguments c.if-x-here.true c.if-y-here.true refl in
    omega (arith, left_fits c.args.heap.now.cells (c.args.x + 1) (c.args.here.left - 1 + c.args.arity) k.right.0.left_run, c.requires.fits)

pub returns-then-y-here : goal.returns-then-y-here
returns-then-y-here c =
    decomposed_equal c.args.heap.now c.args.pairs.now c.args.here _
    c.args.x c.args.y c.args.arity c.requires.store c.requires.right c.requires.some c.requires.arguments c.if-x-here.true c.if-y-here.true refl

waits : (c : goal.Joined-here-gt1) → Waits c.args.heap.now c.args.pairs.now c.if-here-gt1.pairs c.args.here
waits c = elim c.if-here-gt1.branch [
  | then-here-gt1+in_ok-push w ↦
      waits_pushed c.args.heap.now c.args.pairs.now c.if-here-gt1.pairs c.args.here w.past.result c.requires.right w.past.ensures (w.pairs-is ∙ w.in_ok-push.ensures.ok)
  | else-here-gt1 w ↦
      waits_same c.args.heap.now c.args.pairs.now c.if-here-gt1.pairs c.args.here c.requires.right c.requires.some w.if-here-gt1.false w.pairs-is
]

pub returns : goal.returns
returns c =
    decomposed_there c.args.heap.now c.args.pairs.now c.if-here-gt1.pairs c.args.here _ c.args.x c.args.y c.args.arity
    c.requires.store c.requires.x c.requires.y c.requires.arguments (waits c) refl

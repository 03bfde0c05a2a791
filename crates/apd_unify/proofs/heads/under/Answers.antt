use Rattle.std.proofs.Common.{inl, ◌+◌, ◌-◌, refl, arith}
use Rattle.apd_cells.proofs.Passing.{passed_here, left_fits}
use Rattle.apd_unify.proofs.heads.under.Goals as goal

pub overflow_add-next-then-at-here : goal.overflow_add-next-then-at-here
overflow_add-next-then-at-here c =
    let k =
    passed_here c.args.heap.now c.args.here (record { at = c.args.here.at + 1; left = c.args.here.left - 1 + c.arity_of-arity.result }) c.args.rest.now c.args.at c.arity_of-arity.result c.symbol-symbol.result
    c.symbol-symbol.ensures.store c.requires.right c.requires.some c.requires.leads c.symbol-symbol.ensures.symbol c.arity_of-arity.ensures (inl c.if-at-here.true) refl in
    omega (arith, left_fits c.args.heap.now.cells (c.args.here.at + 1) (c.args.here.left - 1 + c.arity_of-arity.result) k.right.0, c.requires.fits)

pub returns-then-at-here : goal.returns-then-at-here
returns-then-at-here c =
    record {
      symbol = c.symbol-symbol.result;
      passes = passed_here c.args.heap.now c.args.here _ c.args.rest.now c.args.at c.arity_of-arity.result c.symbol-symbol.result
          c.symbol-symbol.ensures.store c.requires.right c.requires.some c.requires.leads c.symbol-symbol.ensures.symbol c.arity_of-arity.ensures (inl c.if-at-here.true) refl;
    }

pub returns : goal.returns
returns c = record { symbol = c.in_ok-passed.passed.symbol; passes = c.in_ok-passed.ensures }

use Rattle.std.proofs.Common.{◌+◌, ◌-◌, arith}
use Rattle.apd_cells.proofs.Passing.{left_fits, run_inside}
use Rattle.apd_past.proofs.Grounding.{written_there}
use Rattle.apd_past.proofs.ground.pass_fixed.Goals as goal

pub symbol-symbol-requires : goal.symbol-symbol-requires
symbol-symbol-requires c = run_inside c.args.then.now.cells c.args.here.at c.args.here.left c.requires.right.0 c.requires.some

pub overflow_add-result-2 : goal.overflow_add-result-2
overflow_add-result-2 c =
    let k = written_there c.args.then.now c.args.here c.symbol-symbol.result c.in-Some.arity c.symbol-symbol.ensures.store c.requires.right c.requires.some c.symbol-symbol.ensures.symbol c.in-Some.ensures in
    omega (arith, left_fits c.args.then.now.cells (c.args.here.at + 1) (c.args.here.left - 1 + c.in-Some.arity) k.passes.right.0, c.symbol-symbol.ensures.fits)

pub returns : goal.returns
returns c = written_there c.args.then.now c.args.here c.symbol-symbol.result c.in-Some.arity c.symbol-symbol.ensures.store c.requires.right c.requires.some c.symbol-symbol.ensures.symbol c.in-Some.ensures

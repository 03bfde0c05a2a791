use Rattle.std.proofs.Common.{◌≡◌, arith, length}
use Rattle.apd_tuples.proofs.Laid.{all_same}
use Rattle.apd_tuples.proofs.cells.are.Goals as goal

pub returns : goal.returns
returns c =
    let lengths : length c.args.kept.now ≡ length c.args.cells.now = omega arith in
    all_same c.args.kept.now c.args.cells.now c.cells.i c.cells.invariant lengths (omega (arith, c.cells-test.false))

use Rattle.std.proofs.Common.{◌≡◌, ◌<◌, length, arith}
use Rattle.apd_tuples.proofs.Laid.{cell_is}
use Rattle.apd_tuples.proofs.cells.is_cell.Goals as goal

pub returns : goal.returns
returns c =
    let inside : c.args.place < length c.args.cells.now = omega arith in
    let same : c.cell_at.result.0 ≡ c.args.cell.0 = omega arith in
    cell_is c.args.cells.now c.args.place c.cell_at.result c.args.cell inside c.cell_at.ensures same

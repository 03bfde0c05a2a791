use Rattle.std.proofs.Common.{◌≡◌, ◌+◌, ◌*◌, arith}
use Rattle.apd_tuples.proofs.Unpacking.{packed, row_again}
use Rattle.apd_tuples.proofs.packed.KeptRow.of.Goals as goal

pub returns : goal.returns
returns c =
    let whole : c.args.row.at * 4 + c.bit.result * 2 + c.bit-2.result ≡ packed c.args.row.at c.args.row.has_goals c.says_ground.result = omega (arith, c.bit.ensures.is, c.bit-2.ensures.is) in
    row_again c.args.row (c.args.row.at * 4 + c.bit.result * 2 + c.bit-2.result) c.says_ground.result whole c.says_ground.ensures

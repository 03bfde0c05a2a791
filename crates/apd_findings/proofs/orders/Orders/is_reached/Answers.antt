use Rattle.std.proofs.Common.{arith}
use Rattle.apd_findings.proofs.orders.Orders.is_reached.Goals as goal

pub is_met-requires : goal.is_met-requires
is_met-requires c = let m = c.requires.low in let k = c.requires.orders.1.lists.denied in omega (arith, m, k)

pub returns : goal.returns
returns c = c.is_met.ensures c.args.high c.in_ok-row.ensures

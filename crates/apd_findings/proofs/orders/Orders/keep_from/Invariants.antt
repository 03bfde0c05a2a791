use Rattle.std.proofs.Common.{List}
use Rattle.apd_answers.specs.declared.store.Pair.{Pair}
use Rattle.apd_findings.specs.Ordering.{AreOrders}
use Rattle.apd_findings.proofs.orders.Orders.keep_from.Given as goal

abbrev pub invariant-steps : goal.invariant-steps
invariant-steps l = (pairs : List Pair) → AreOrders pairs l.fn.self → AreOrders pairs l.self

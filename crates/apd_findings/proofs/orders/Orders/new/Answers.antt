use Rattle.apd_findings.proofs.Ordering.{none-said}
use Rattle.apd_findings.proofs.orders.Orders.new.Goals as goal

pub returns : goal.returns
returns c = none-said _ c.new.ensures.empty c.new-2.ensures.items c.new-3.ensures.items c.new-4.ensures.empty c.new-5.ensures.items

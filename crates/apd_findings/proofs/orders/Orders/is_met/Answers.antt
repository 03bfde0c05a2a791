use Rattle.std.proofs.Common.{◌↔◌, ◌≡◌, true, [], sym, subst, ◌∙◌}
use Rattle.apd_findings.specs.Reaching.{HasSome}
use Rattle.apd_findings.proofs.Marked.{at-default}
use Rattle.apd_findings.proofs.Ordering.{met-denied, met-here}
use Rattle.apd_findings.proofs.orders.Orders.is_met.Goals as goal

pub returns-then-has : goal.returns-then-has
returns-then-has c = met-here c.args.self.now.above.items c.args.self.now.denied.items c.args.row.now c.args.low (sym c.has.ensures ∙ c.if-has.true)

pub returns : goal.returns
returns c =
    let is = c.as_slice.ensures ∙ at-default c.args.self.now.denied.items c.args.low c.index.result.now [] c.requires c.index.ensures in
    met-denied c.args.self.now.above.items c.args.self.now.denied.items c.args.row.now c.args.low c.has_some.result (sym c.has.ensures ∙ c.if-has.false)
    (subst (λ ns. c.has_some.result ≡ true ↔ HasSome c.args.row.now ns) is c.has_some.ensures)

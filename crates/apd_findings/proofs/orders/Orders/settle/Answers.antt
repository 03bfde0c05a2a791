use Rattle.std.proofs.Common.{refl, ap, ◌∙◌}
use Rattle.apd_findings.proofs.Ordering.{forgotten}
use Rattle.apd_findings.proofs.orders.Orders.settle.Goals as goal

pub returns : goal.returns
returns c = λ pairs h.
    forgotten pairs c.args.self.now _ refl refl refl (ap (λ m. m.entries) c.replace.ensures.after ∙ c.new.ensures.empty) (ap (λ v. v.items) c.replace-2.ensures.after ∙ c.new-2.ensures.items) h

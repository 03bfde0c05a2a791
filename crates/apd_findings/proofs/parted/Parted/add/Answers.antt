use Rattle.std.proofs.Common.{ap, subst, sym, List}
use Rattle.apd_answers.specs.Store.{Store}
use Rattle.apd_answers.specs.declared.store.Pair.{Pair}
use Rattle.apd_findings.specs.Ordering.{AreOrders}
use Rattle.apd_findings.specs.Parted.{AreAffirmed, AreDenied}
use Rattle.apd_findings.proofs.parted.Parted.add.Goals as goal

pub invariant_of-self-2 : goal.invariant_of-self-2
invariant_of-self-2 c = λ whole.
    let before = c.self.invariant c.if-not-self.false in
    let is = ap (λ (s : Store). s.pairs) c.in_ok-add.ensures.ok in (
      subst (λ (ps : List Pair). AreAffirmed ps c.put.new.parts.affirmed) (sym is) (c.in_ok-put.ensures.affirmed c.self.inside.all.pairs before.0),
      (
        subst (λ (ps : List Pair). AreDenied ps c.put.new.parts.denied) (sym is) (c.in_ok-put.ensures.denied c.self.inside.all.pairs before.1.0),
        subst (λ (ps : List Pair). AreOrders ps c.put.new.parts.orders) (sym is) (c.in_ok-put.ensures.orders c.self.inside.all.pairs before.1.1),
      ),
    )

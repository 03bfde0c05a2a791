use Rattle.std.proofs.Common.{List, subst, arith, take}
use Rattle.std.proofs.lemmas.List.{take_all}
use Rattle.apd_answers.specs.declared.store.Pair.{Pair}
use Rattle.apd_findings.specs.Ordering.{AreOrders}
use Rattle.apd_findings.specs.Parted.{AreAffirmed, AreDenied}
use Rattle.apd_findings.proofs.Parting.{put-next}
use Rattle.apd_findings.proofs.parted.put_pairs.Goals as goal

pub pairs-preserved : goal.pairs-preserved
pairs-preserved c =
    let next = put-next c.args.all.now.pairs c.pairs.i c.question.result.now c.reply.result.now c.are_once.ensures (omega (arith, c.pairs-test.true, c.len-i-end.ensures)) c.question.ensures c.reply.ensures in (
      subst (λ (ps : List Pair). AreAffirmed ps c.put.new.parts.affirmed) next (c.in_ok-put.ensures.affirmed (take c.pairs.i c.args.all.now.pairs) c.pairs.invariant.0),
      (
        subst (λ (ps : List Pair). AreDenied ps c.put.new.parts.denied) next (c.in_ok-put.ensures.denied (take c.pairs.i c.args.all.now.pairs) c.pairs.invariant.1.0),
        subst (λ (ps : List Pair). AreOrders ps c.put.new.parts.orders) next (c.in_ok-put.ensures.orders (take c.pairs.i c.args.all.now.pairs) c.pairs.invariant.1.1),
      ),
    )

pub returns-clause-affirmed : goal.returns-clause-affirmed
returns-clause-affirmed c = subst (λ (ps : List Pair). AreAffirmed ps c.pairs.parts.affirmed) (take_all c.pairs.i c.args.all.now.pairs (omega (arith, c.pairs-test.false, c.len-i-end.ensures))) c.pairs.invariant.0

pub returns-clause-denied : goal.returns-clause-denied
returns-clause-denied c = subst (λ (ps : List Pair). AreDenied ps c.pairs.parts.denied) (take_all c.pairs.i c.args.all.now.pairs (omega (arith, c.pairs-test.false, c.len-i-end.ensures))) c.pairs.invariant.1.0

pub returns-clause-orders : goal.returns-clause-orders
returns-clause-orders c = subst (λ (ps : List Pair). AreOrders ps c.pairs.parts.orders) (take_all c.pairs.i c.args.all.now.pairs (omega (arith, c.pairs-test.false, c.len-i-end.ensures))) c.pairs.invariant.1.1

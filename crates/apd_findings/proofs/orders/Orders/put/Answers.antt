use Rattle.std.proofs.Common.{List, sym, subst}
use Rattle.std.specs.Prelude.{OnOk}
use Rattle.apd_answers.specs.Store.{with_pair_in}
use Rattle.apd_answers.specs.declared.question.Question.{Question}
use Rattle.apd_answers.specs.declared.store.Pair.{Pair}
use Rattle.apd_findings.specs.Ordering.{AreOrders}
use Rattle.apd_findings.proofs.Ordering.{not-below, put-else}
use Rattle.apd_findings.proofs.orders.Orders.put.Goals as goal

pub returns-in-Below : goal.returns-in-Below
returns-in-Below c =
    subst (λ (q : Question). OnOk c.put_order.result ((pairs : List Pair) → AreOrders pairs c.args.self.now → AreOrders (with_pair_in pairs q c.args.reply.now) c.put_order.new.self)) (sym c.in-Below.is) c.put_order.ensures

pub returns-in_default : goal.returns-in_default
returns-in_default c = λ pairs h. put-else pairs c.args.question.now c.args.reply.now c.args.self.now (not-below c.args.question.now c.args.reply.now c.in_default.not-Below) h

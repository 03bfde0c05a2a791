use Rattle.std.proofs.Common.{refl, arith}
use Rattle.std.proofs.lemmas.Result.{on_ok_weaker}
use Rattle.apd_findings.proofs.Ordering.{low-within, pushed, put-no-as, put-other, put-yes-as}
use Rattle.apd_findings.proofs.orders.Orders.put_order.Goals as goal

pub index_mut-requires : goal.index_mut-requires
index_mut-requires c =
    let w = low-within c.args.self.now c.number.new.self c.number-2.new.self c.args.callee.now c.args.caller.now c.in_ok-low.low c.in_ok-high.high c.in_ok-low.ensures c.in_ok-high.ensures in
    let l = w.0 in omega (arith, l, c.number-2.new.self.above.ok.0)

pub index_mut-requires-in-No : goal.index_mut-requires-in-No
index_mut-requires-in-No c =
    let w = low-within c.args.self.now c.number.new.self c.number-2.new.self c.args.callee.now c.args.caller.now c.in_ok-low.low c.in_ok-high.high c.in_ok-low.ensures c.in_ok-high.ensures in
    let l = w.1 in omega (arith, l, c.number-2.new.self.denied.ok.0)

pub returns-in_ok-push-in-Yes : goal.returns-in_ok-push-in-Yes
returns-in_ok-push-in-Yes c =
    on_ok_weaker c.push-in-Yes.result (λ grown pairs h.
    put-yes-as pairs c.args.self.now c.number.new.self c.number-2.new.self c.args.callee.now c.args.caller.now c.in_ok-low.low c.in_ok-high.high c.in_ok-low.ensures c.in_ok-high.ensures h c.args.reply.now _ c.in-Yes.is refl refl refl c.in_ok-push-in-Yes.ensures.items
    (pushed c.number-2.new.self.above.items c.in_ok-low.low c.in_ok-high.high c.index_mut.result.now c.push-in-Yes.new.self (low-within c.args.self.now c.number.new.self c.number-2.new.self c.args.callee.now c.args.caller.now c.in_ok-low.low c.in_ok-high.high c.in_ok-low.ensures c.in_ok-high.ensures).0 c.index_mut.ensures.value grown)) c.push-in-Yes.ensures.ok

pub returns-in-No : goal.returns-in-No
returns-in-No c =
    on_ok_weaker c.push-in-No.result (λ grown pairs h.
    put-no-as pairs c.args.self.now c.number.new.self c.number-2.new.self c.args.callee.now c.args.caller.now c.in_ok-low.low c.in_ok-high.high c.in_ok-low.ensures c.in_ok-high.ensures h c.args.reply.now _ c.in-No.is refl refl refl refl
    (pushed c.number-2.new.self.denied.items c.in_ok-low.low c.in_ok-high.high c.index_mut-in-No.result.now c.push-in-No.new.self (low-within c.args.self.now c.number.new.self c.number-2.new.self c.args.callee.now c.args.caller.now c.in_ok-low.low c.in_ok-high.high c.in_ok-low.ensures c.in_ok-high.ensures).1 c.index_mut-in-No.ensures.value grown)) c.push-in-No.ensures.ok

pub returns-in_default : goal.returns-in_default
returns-in_default c = λ pairs h.
    put-other pairs c.args.self.now c.number.new.self c.number-2.new.self c.args.callee.now c.args.caller.now c.in_ok-low.low c.in_ok-high.high c.in_ok-low.ensures c.in_ok-high.ensures h c.args.reply.now c.in_default.not-Yes c.in_default.not-No

use Rattle.std.proofs.Common.{rules, ◌≡◌, ◌-◌, ◌<◌, ◌++◌, arith}
use Rattle.std.specs.Prelude.{codes}
use Rattle.std.proofs.lemmas.Result.{IfOk-weaker}
use Rattle.apd_write.proofs.Closed.{argument_closed, last_argument_closed}
use Rattle.apd_write.proofs.closing.close_argument.Goals as goal

pub returns-then-left-gt0 : goal.returns-then-left-gt0
returns-then-left-gt0 c = λ ops.
    let added : c.push.new.self ≡ c.args.out.now ++ codes "," = search rules in
    let some : 0 < c.args.left = omega arith in
    argument_closed ops c.args.names.now c.args.left (c.args.left - 1) c.args.frames.now.items c.args.out.now c.push.new.self (omega (arith, some)) added

pub returns : goal.returns
returns c =
    let added : c.push-2.new.self ≡ c.args.out.now ++ codes ")" = search rules in
    IfOk-weaker c.close_frames.result _ _ (λ next closing ops.
    last_argument_closed ops c.args.names.now c.args.left c.args.frames.now.items c.close_frames.new.frames.items c.args.out.now c.push-2.new.self c.close_frames.new.out next (let h = c.if-left-gt0.false in omega arith) added (closing ops)) c.close_frames.ensures

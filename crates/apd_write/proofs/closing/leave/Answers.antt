use Rattle.std.proofs.Common.{rules, ◌≡◌, ◌-◌, ◌<◌, ◌++◌, arith}
use Rattle.std.specs.Prelude.{codes}
use Rattle.apd_write.proofs.Closed.{argument_left}
use Rattle.apd_write.proofs.closing.leave.Goals as goal

pub returns-in-Arguments : goal.returns-in-Arguments
returns-in-Arguments c = λ ops frames.
    let added : c.push.new.self ≡ c.args.out.now ++ codes "," = search rules in
    let some : 0 < c.in-Arguments.left = omega arith in
    rw c.in-Arguments.is (argument_left ops c.args.names.now c.in-Arguments.left (c.in-Arguments.left - 1) frames c.args.out.now c.push.new.self (omega (arith, some)) added)

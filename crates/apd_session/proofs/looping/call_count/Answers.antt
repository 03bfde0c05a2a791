use Rattle.std.proofs.Common.{ap, arith, length}
use Rattle.apd_session.proofs.Lacking.{chain-fewer}
use Rattle.apd_session.proofs.looping.call_count.Goals as goal

pub overflow_cast-result : goal.overflow_cast-result
overflow_cast-result c =
    let fewer = chain-fewer c.args.history.now in
    let calls = ap length c.requires in
    grind (arith, fewer, calls)

use Rattle.std.proofs.Common.{arith}
use Rattle.apd_read.proofs.Placed.{placed_is, fills_within}
use Rattle.apd_read.proofs.reader.answer.Goals as goal

pub returns-in-Err-clause-err : goal.returns-in-Err-clause-err
returns-in-Err-clause-err c =
    rw (c.placed-told.ensures, c.deref-in-Err.ensures.value)
    (placed_is c.args.ops.now c.args.clause.lexemes.items c.args.end c.in-Err.fault (rw c.deref.ensures.value at c.in-Err.ensures))

pub overflow_add-result : goal.overflow_add-result
overflow_add-result c =
    let short = c.requires.short in
    let low = c.requires.low in
    let w = fills_within (rw c.deref.ensures.value at c.in-Ok.ensures) in omega arith

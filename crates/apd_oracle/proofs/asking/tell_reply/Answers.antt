use Rattle.std.proofs.Common.{Ok, Err}
use Rattle.std.proofs.lemmas.Result.{err_from_is_err_and}
use Rattle.apd_oracle.proofs.Waiting.{said_so, unsaid}
use Rattle.apd_oracle.proofs.asking.tell_reply.Goals as goal

pub returns-in_err-reply : goal.returns-in_err-reply
returns-in_err-reply g c =
    let p = err_from_is_err_and c.from_residual.result c.from_residual.ensures.1 in
    rw (p.1, p.2) (unsaid c.args.by_reference c.args.reply.now c.args.left c.args.voice.now)

pub returns-in-Ok : goal.returns-in-Ok
returns-in-Ok g c =
    said_so c.args.by_reference c.in_ok-reply.reply c.args.reply.now c.args.left c.args.voice.now c.say_kept.new.self (Ok tt) c.in_ok-reply.ensures c.requires c.in-Ok.ensures.says c.say_kept.ensures.stays c.say_kept.ensures.place c.in-Ok.ensures.cause

pub returns-in-Err : goal.returns-in-Err
returns-in-Err g c = rw c.end_of_trouble.ensures
    (said_so c.args.by_reference c.in_ok-reply.reply c.args.reply.now c.args.left c.args.voice.now c.say_kept.new.self (Err c.in-Err.trouble) c.in_ok-reply.ensures c.requires c.in-Err.ensures.says c.say_kept.ensures.stays c.say_kept.ensures.place c.in-Err.ensures.cause)

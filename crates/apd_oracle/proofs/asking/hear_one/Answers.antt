use Rattle.std.proofs.Common.{length}
use Rattle.std.proofs.lemmas.Result.{err_from_is_err_and}
use Rattle.apd_talk.specs.Moment.{moment}
use Rattle.apd_lines.proofs.Growing.{line_fits}
use Rattle.apd_oracle.proofs.Fitting.{is_reply}
use Rattle.apd_oracle.proofs.Hearing.{heard_end, heard_unread, heard_nothing, heard_reply, heard_stop, heard_quit, heard_bad, heard_bad_front}
use Rattle.apd_oracle.proofs.asking.hear_one.Goals as goal

pub returns-in-Err-clause-heard : goal.returns-in-Err-clause-heard
returns-in-Err-clause-heard g c = rw c.end_of_line.ensures
    (heard_end c.args.asked.now (moment g.S.Source c.args.desk.now) c.line.new.self (g.S.Source.left c.line.new.source) (g.S.Source.faults c.line.new.source) c.line.ensures.sound
    c.in-Err.end c.in-Err.ensures.line c.in-Err.ensures.cause)

pub read_for-requires : goal.read_for-requires
read_for-requires g c = record { fits = line_fits (length c.args.desk.now.voice.now.log.names) c.args.desk.now.console.now c.line.new.self _ _ c.in-Ok.line c.in-Ok.ensures.line c.requires.room }

pub returns-in_err-read-clause-heard : goal.returns-in_err-read-clause-heard
returns-in_err-read-clause-heard g c =
    let p = err_from_is_err_and c.from_residual.result c.from_residual.ensures.1 in
    rw (p.1, p.2, c.read_for.ensures.stays)
    (heard_unread c.args.asked.now (moment g.S.Source c.args.desk.now) c.line.new.self (g.S.Source.left c.line.new.source) (g.S.Source.faults c.line.new.source) c.line.ensures.sound
    c.in-Ok.line c.read_for.new.voice.log.names c.in-Ok.ensures.line c.in-Ok.ensures.cause c.read_for.ensures.names)

pub returns-in_err-spoken-clause-heard : goal.returns-in_err-spoken-clause-heard
returns-in_err-spoken-clause-heard g c =
    let p = err_from_is_err_and c.from_residual-in_err-spoken.result c.from_residual-in_err-spoken.ensures.1 in
    rw (p.1, p.2, c.read_for.ensures.stays)
    (heard_unread c.args.asked.now (moment g.S.Source c.args.desk.now) c.line.new.self (g.S.Source.left c.line.new.source) (g.S.Source.faults c.line.new.source) c.line.ensures.sound
    c.in-Ok.line c.read_for.new.voice.log.names c.in-Ok.ensures.line c.in-Ok.ensures.cause c.read_for.ensures.names)

pub returns-in-Nothing-clause-heard : goal.returns-in-Nothing-clause-heard
returns-in-Nothing-clause-heard g c = rw c.read_for.ensures.stays
    (heard_nothing c.args.asked.now (moment g.S.Source c.args.desk.now) c.line.new.self (g.S.Source.left c.line.new.source) (g.S.Source.faults c.line.new.source) c.line.ensures.sound
    c.in-Ok.line c.read_for.new.voice.log.names c.in-Ok.ensures.line c.in-Ok.ensures.cause c.read_for.ensures.names c.in_ok-read.read c.in_ok-read.ensures.line c.in_ok-spoken.spoken c.in_ok-spoken.ensures c.in-Nothing.is)

pub returns-in-Reply-clause-heard : goal.returns-in-Reply-clause-heard
returns-in-Reply-clause-heard g c = rw c.read_for.ensures.stays
    (heard_reply c.args.asked.now (moment g.S.Source c.args.desk.now) c.line.new.self (g.S.Source.left c.line.new.source) (g.S.Source.faults c.line.new.source) c.line.ensures.sound
    c.in-Ok.line c.read_for.new.voice.log.names c.in-Ok.ensures.line c.in-Ok.ensures.cause c.read_for.ensures.names c.in_ok-read.read c.in_ok-read.ensures.line c.in_ok-spoken.spoken c.in_ok-spoken.ensures c.in-Reply.reply c.in-Reply.is)

pub returns-in-Reply-clause-reply : goal.returns-in-Reply-clause-reply
returns-in-Reply-clause-reply g c = is_reply (length c.read_for.new.voice.log.names) c.args.asked.now c.in_ok-read.read c.in-Reply.reply c.in_ok-read.ensures.named (rw c.in_ok-spoken.ensures at c.in-Reply.is)

pub returns-in-Stop-clause-heard : goal.returns-in-Stop-clause-heard
returns-in-Stop-clause-heard g c = rw c.read_for.ensures.stays
    (heard_stop c.args.asked.now (moment g.S.Source c.args.desk.now) c.line.new.self (g.S.Source.left c.line.new.source) (g.S.Source.faults c.line.new.source) c.line.ensures.sound
    c.in-Ok.line c.read_for.new.voice.log.names c.in-Ok.ensures.line c.in-Ok.ensures.cause c.read_for.ensures.names c.in_ok-read.read c.in_ok-read.ensures.line c.in_ok-spoken.spoken c.in_ok-spoken.ensures c.in-Stop.is)

pub returns-in-Quit-clause-heard : goal.returns-in-Quit-clause-heard
returns-in-Quit-clause-heard g c = rw c.read_for.ensures.stays
    (heard_quit c.args.asked.now (moment g.S.Source c.args.desk.now) c.line.new.self (g.S.Source.left c.line.new.source) (g.S.Source.faults c.line.new.source) c.line.ensures.sound
    c.in-Ok.line c.read_for.new.voice.log.names c.in-Ok.ensures.line c.in-Ok.ensures.cause c.read_for.ensures.names c.in_ok-read.read c.in_ok-read.ensures.line c.in_ok-spoken.spoken c.in_ok-spoken.ensures c.in-Quit.is)

pub returns-in-Ok-say_kept-clause-heard : goal.returns-in-Ok-say_kept-clause-heard
returns-in-Ok-say_kept-clause-heard g c =
    heard_bad c.args.asked.now (moment g.S.Source c.args.desk.now) c.line.new.self (g.S.Source.left c.line.new.source) (g.S.Source.faults c.line.new.source) c.line.ensures.sound
    c.in-Ok.line c.read_for.new.voice.log.names c.in-Ok.ensures.line c.in-Ok.ensures.cause c.read_for.ensures.names c.in_ok-read.read c.in_ok-read.ensures.line c.in_ok-spoken.spoken c.in_ok-spoken.ensures c.in-Bad.reason c.in-Bad.is
    c.say_kept.new.self (rw c.read_for.ensures.stays at c.say_kept.ensures.place) tt ((rw c.read_for.ensures.stays at c.in-Ok-say_kept.ensures.says) tt)

pub returns-in-Err-say_kept-clause-heard : goal.returns-in-Err-say_kept-clause-heard
returns-in-Err-say_kept-clause-heard g c = rw c.end_of_trouble.ensures
    (heard_bad_front c.args.asked.now (moment g.S.Source c.args.desk.now) c.line.new.self (g.S.Source.left c.line.new.source) (g.S.Source.faults c.line.new.source) c.line.ensures.sound
    c.in-Ok.line c.read_for.new.voice.log.names c.in-Ok.ensures.line c.in-Ok.ensures.cause c.read_for.ensures.names c.in_ok-read.read c.in_ok-read.ensures.line c.in_ok-spoken.spoken c.in_ok-spoken.ensures c.in-Bad.reason c.in-Bad.is
    c.say_kept.new.self (rw c.read_for.ensures.stays at c.say_kept.ensures.place) c.in-Err-say_kept.trouble ((rw c.read_for.ensures.stays at c.in-Err-say_kept.ensures.says) tt))

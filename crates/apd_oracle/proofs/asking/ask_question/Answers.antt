use Rattle.std.proofs.Common.{◌≡◌, ap, refl}
use Rattle.std.proofs.lemmas.Result.{err_from_is_err_and}
use Rattle.apd_answers.specs.declared.question.Asked.{Asked}
use Rattle.apd_answers.specs.declared.question.Question.{Question}
use Rattle.apd_talk.specs.Moment.{moment}
use Rattle.apd_oracle.proofs.Waiting.{asked_faults, asked_front, asked_heard, front_faults, unasked}
use Rattle.apd_oracle.proofs.asking.ask_question.Goals as goal

-- a question that is copied
copied : (asked : Asked) (q : Question) → q ≡ asked.question → record { question = q; suspects = asked.suspects } ≡ asked
copied asked q is = ap (λ (q : Question). record { question = q; suspects = asked.suspects }) is

pub returns-in_err-copy-clause-calls : goal.returns-in_err-copy-clause-calls
returns-in_err-copy-clause-calls g c =
    let p = err_from_is_err_and c.from_residual.result c.from_residual.ensures.1 in
    rw (p.1, p.2) (unasked (g.R.Replier.replies c.args.replier.now) c.args.by_reference.now c.args.asked.now c.args.count (moment g.S.Source c.args.desk.now) c.keeps_its_limits.ensures)

pub returns-in_err-copy-clause-faults : goal.returns-in_err-copy-clause-faults
returns-in_err-copy-clause-faults g c =
    let p = err_from_is_err_and c.from_residual.result c.from_residual.ensures.1 in
    rw (p.1, p.2) (record { read = refl; write = refl })

pub returns-in-Ok-clause-calls : goal.returns-in-Ok-clause-calls
returns-in-Ok-clause-calls g c =
    asked_heard (g.R.Replier.replies c.args.replier.now) c.args.by_reference.now c.args.count c.saturating_add.result c.saturating_add.ensures (record { question = c.in_ok-copy.field-0; suspects = c.args.asked.now.suspects }) c.args.asked.now (copied c.args.asked.now c.in_ok-copy.field-0 c.in_ok-copy.ensures)
    (moment g.S.Source c.args.desk.now) c.say_kept.new.self c.keeps_its_limits.ensures c.requires.hear.standard c.say_kept.ensures.stays c.say_kept.ensures.place tt c.in-Ok.ensures.says
    (moment g.S.Source c.answer_question.new.desk) c.answer_question.result c.answer_question.ensures.heard c.answer_question.ensures.reply

pub returns-in-Ok-clause-faults : goal.returns-in-Ok-clause-faults
returns-in-Ok-clause-faults g c =
    asked_faults (moment g.S.Source c.args.desk.now) c.say_kept.new.self (moment g.S.Source c.answer_question.new.desk) c.answer_question.result c.in-Ok.ensures.cause c.answer_question.ensures.heard.faults

pub returns-in-Ok-clause-fits : goal.returns-in-Ok-clause-fits
returns-in-Ok-clause-fits g c = c.answer_question.ensures.fits

pub returns-in-Err-clause-calls : goal.returns-in-Err-clause-calls
returns-in-Err-clause-calls g c = rw c.end_of_trouble.ensures
    (asked_front (g.R.Replier.replies c.args.replier.now) c.args.by_reference.now c.args.count c.saturating_add.result c.saturating_add.ensures (record { question = c.in_ok-copy.field-0; suspects = c.args.asked.now.suspects }) c.args.asked.now (copied c.args.asked.now c.in_ok-copy.field-0 c.in_ok-copy.ensures)
    (moment g.S.Source c.args.desk.now) c.say_kept.new.self c.keeps_its_limits.ensures c.requires.hear.standard c.say_kept.ensures.stays c.say_kept.ensures.place c.in-Err.trouble c.in-Err.ensures.says)

pub returns-in-Err-clause-faults : goal.returns-in-Err-clause-faults
returns-in-Err-clause-faults g c = rw c.end_of_trouble.ensures (front_faults (moment g.S.Source c.args.desk.now) c.say_kept.new.self c.in-Err.trouble c.in-Err.ensures.cause)

use Rattle.std.proofs.lemmas.Result.{err_from_is_err_and}
use Rattle.apd_talk.specs.Speech.{Speech}
use Rattle.apd_session.specs.Steps.{remarks}
use Rattle.apd_session.specs.declared.notes.Noted.TheVariants.{PassedOver, Called}
use Rattle.apd_talk.proofs.Speaking.{Says-less, Says-more}
use Rattle.apd_session.proofs.notes.say_remarks.Goals as goal

pub returns-in_err-say_notes : goal.returns-in_err-say_notes
returns-in_err-say_notes g c =
    let passed : Speech = λ ops names. remarks ops names PassedOver c.args.passed.now in
    let called : Speech = λ ops names. remarks ops names Called c.args.called.now in
    let p = err_from_is_err_and c.from_residual.result c.from_residual.ensures.1 in rw (p.1, p.2) (Says-less passed called _ _ _ c.in_err-say_notes.ensures)

pub returns : goal.returns
returns g c =
    let passed : Speech = λ ops names. remarks ops names PassedOver c.args.passed.now in
    let called : Speech = λ ops names. remarks ops names Called c.args.called.now in
    Says-more passed called _ c.say_notes.new.voice _ _ c.say_notes-2.result c.in_ok-say_notes.ensures c.say_notes-2.ensures

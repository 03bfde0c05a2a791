use Rattle.std.proofs.lemmas.Result.{err_from_is_err_and}
use Rattle.apd_talk.specs.Speech.{Speech}
use Rattle.apd_session.specs.Opening.{known_said, reference_said}
use Rattle.apd_talk.proofs.Speaking.{Says-less, Says-more}
use Rattle.apd_session.proofs.notes.say_further.Goals as goal

pub returns-in_err-say_known : goal.returns-in_err-say_known
returns-in_err-say_known g c =
    let known : Speech = λ ops names. known_said ops names c.args.beginning.now.statements in
    let reference : Speech = λ ops names. reference_said ops names c.args.beginning.now.reference in
    let p = err_from_is_err_and c.from_residual.result c.from_residual.ensures.1 in rw (p.1, p.2) (Says-less known reference _ _ _ c.in_err-say_known.ensures)

pub returns : goal.returns
returns g c =
    let known : Speech = λ ops names. known_said ops names c.args.beginning.now.statements in
    let reference : Speech = λ ops names. reference_said ops names c.args.beginning.now.reference in
    Says-more known reference _ c.say_known.new.voice _ _ c.say_reference.result c.in_ok-say_known.ensures c.say_reference.ensures

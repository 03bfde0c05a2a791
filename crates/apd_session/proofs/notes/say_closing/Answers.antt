use Rattle.apd_talk.specs.Speech.{Speech, one}
use Rattle.apd_session.specs.Opening.{beginning_said}
use Rattle.apd_talk.proofs.Speaking.{Says-less, Says-more}
use Rattle.apd_session.proofs.notes.say_closing.Goals as goal

pub returns-in-Ok : goal.returns-in-Ok
returns-in-Ok g c =
    let loaded : Speech = λ ops names. beginning_said ops names c.args.beginning.now in
    let said = rw c.in-Ok.is at c.say_beginning.ensures in
    Says-more loaded (one c.args.entry) _ c.say_beginning.new.voice _ _ c.say.result said c.say.ensures

pub returns-in-Err : goal.returns-in-Err
returns-in-Err g c =
    let loaded : Speech = λ ops names. beginning_said ops names c.args.beginning.now in
    let said = rw c.in-Err.is at c.say_beginning.ensures in
    Says-less loaded (one c.args.entry) _ _ c.in-Err.trouble said

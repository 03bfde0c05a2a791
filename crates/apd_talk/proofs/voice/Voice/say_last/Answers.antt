use Rattle.std.proofs.Common.{◌∙◌, refl}
use Rattle.std.proofs.lemmas.Result.{err_from_is_err_and}
use Rattle.apd_talk.proofs.Speaking.{Says-front, Says-one, Says-unprinted}
use Rattle.apd_talk.proofs.voice.Voice.say_last.Goals as goal

pub returns-in_err-made-clause-says : goal.returns-in_err-made-clause-says
returns-in_err-made-clause-says g c = rw (← c.self.view_is)
    (let p = err_from_is_err_and c.from_residual-in_err-made.result c.from_residual-in_err-made.ensures.1 in
    rw (p.1, p.2) (Says-unprinted c.args.entry _ _ c.in_ok-push.ensures.pushed refl refl refl refl refl))

pub returns-in_err-print-clause-says : goal.returns-in_err-print-clause-says
returns-in_err-print-clause-says g c =
    let named = rw (← c.self.view_is) at c.requires.named in
    rw (← c.self.view_is)
    (let p = err_from_is_err_and c.from_residual-in_err-print.result c.from_residual-in_err-print.ensures.1 in
    rw (p.1, p.2)
    (Says-front c.args.entry _ _ c.bytes-2.result.now named (c.bytes-2.ensures ∙ c.in_ok-made.ensures) c.in_ok-push.ensures.pushed c.in_err-print.ensures.err refl refl c.in_err-print.ensures.cause.1 c.in_err-print.ensures.cause.0 refl))

pub returns-clause-says : goal.returns-clause-says
returns-clause-says g c =
    let named = rw (← c.self.view_is) at c.requires.named in
    rw (← c.self.view_is) (Says-one c.args.entry _ _ _ c.bytes-2.result.now named (c.bytes-2.ensures ∙ c.in_ok-made.ensures) c.in_ok-push.ensures.pushed c.in_ok-print.ensures.ok refl refl c.in_ok-print.ensures.cause refl)

use Rattle.std.proofs.Common.{◌∙◌, refl}
use Rattle.std.proofs.lemmas.Result.{err_from_is_err_and}
use Rattle.apd_talk.specs.Speech.{one}
use Rattle.apd_talk.proofs.Speaking.{Says-none, Says-one, Says-front}
use Rattle.apd_talk.proofs.voice.Voice.say_entry.Goals as goal

pub returns-in_err-text-clause-says : goal.returns-in_err-text-clause-says
returns-in_err-text-clause-says g c = rw (← c.self.view_is) (λ named.
    let p = err_from_is_err_and c.from_residual.result c.from_residual.ensures.1 in
    rw (p.1, p.2) (Says-none (one c.args.entry) _ _ refl refl refl refl refl refl))

pub returns-in_err-push-clause-says : goal.returns-in_err-push-clause-says
returns-in_err-push-clause-says g c = rw (← c.self.view_is) (λ named.
    let p = err_from_is_err_and c.from_residual-in_err-push.result c.from_residual-in_err-push.ensures.1 in
    rw (p.1, p.2) (Says-none (one c.args.entry) _ _ c.in_err-push.ensures.same refl refl refl refl refl))

pub returns-in_err-print-clause-says : goal.returns-in_err-print-clause-says
returns-in_err-print-clause-says g c = rw (← c.self.view_is) (λ named.
    let p = err_from_is_err_and c.from_residual-in_err-print.result c.from_residual-in_err-print.ensures.1 in
    rw (p.1, p.2)
    (Says-front c.args.entry _ _ c.bytes.result.now named (c.bytes.ensures ∙ c.in_ok-text.ensures) c.in_ok-push.ensures.pushed c.in_err-print.ensures.err refl refl c.in_err-print.ensures.cause.1 c.in_err-print.ensures.cause.0 refl))

pub returns-clause-says : goal.returns-clause-says
returns-clause-says g c = rw (← c.self.view_is) (λ named. Says-one c.args.entry _ _ _ c.bytes.result.now named (c.bytes.ensures ∙ c.in_ok-text.ensures) c.in_ok-push.ensures.pushed c.in_ok-print.ensures.ok refl refl c.in_ok-print.ensures.cause refl)

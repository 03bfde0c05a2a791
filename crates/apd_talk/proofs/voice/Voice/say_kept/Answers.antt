use Rattle.std.proofs.Common.{ap, refl}
use Rattle.std.proofs.lemmas.Result.{err_from_is_err_and}
use Rattle.apd_talk.specs.Speech.{Spoken, one}
use Rattle.apd_talk.proofs.Speaking.{Says-none, Says-with}
use Rattle.apd_talk.proofs.voice.Voice.say_kept.Goals as goal

pub returns-in_err-reserve-clause-says : goal.returns-in_err-reserve-clause-says
returns-in_err-reserve-clause-says g c = λ named.
    let p = err_from_is_err_and c.from_residual.result c.from_residual.ensures.1 in
    rw (p.1, p.2, c.reserve.ensures.stays) (Says-none (one c.args.entry) _ _ c.reserve.ensures.same refl refl refl refl refl)

pub returns-clause-says : goal.returns-clause-says
returns-clause-says g c = λ named.
    let says = c.say_entry.ensures.says in
    Says-with (one c.args.entry) _ _ c.reserve.new.self.log.entries c.say_entry.result c.reserve.ensures.same ((rw c.reserve.ensures.stays at says) named)

pub returns-in_err-reserve-clause-stays : goal.returns-in_err-reserve-clause-stays
returns-in_err-reserve-clause-stays g c = rw c.reserve.ensures.stays record { names = refl; ops = refl; over = refl }

pub returns-clause-stays : goal.returns-clause-stays
returns-clause-stays g c =
    let stays = rw c.reserve.ensures.stays at c.say_entry.ensures.stays in
    record { names = stays.names; ops = stays.ops; over = stays.over }

pub returns-in_err-reserve-clause-cause : goal.returns-in_err-reserve-clause-cause
returns-in_err-reserve-clause-cause g c =
    let p = err_from_is_err_and c.from_residual.result c.from_residual.ensures.1 in
    rw (p.1, p.2) (ap (λ (s : Spoken). s.write_faults) c.reserve.ensures.stays)

pub returns-clause-cause : goal.returns-clause-cause
returns-clause-cause g c = rw c.reserve.ensures.stays at c.say_entry.ensures.cause

use Rattle.std.proofs.Common.{refl}
use Rattle.apd_text.specs.declared.entry.Entry.TheVariants.{Symptom}
use Rattle.apd_talk.specs.Speech.{one}
use Rattle.apd_talk.proofs.Speaking.{Says-none, Says-with}
use Rattle.apd_session.proofs.diagnosing.keep_symptom.Goals as goal

pub returns-in-Err-clause-says : goal.returns-in-Err-clause-says
returns-in-Err-clause-says g c = rw c.reserve.ensures.stays (Says-none (one (Symptom c.args.what)) _ _ c.reserve.ensures.same refl refl refl refl refl)

pub returns-in-Err-keep_told-clause-says : goal.returns-in-Err-keep_told-clause-says
returns-in-Err-keep_told-clause-says g c = rw c.reserve.ensures.stays (Says-none (one (Symptom c.args.what)) _ _ c.reserve.ensures.same refl refl refl refl refl)

pub returns-clause-says : goal.returns-clause-says
returns-clause-says g c =
    Says-with (one (Symptom c.args.what)) _ _ c.reserve.new.self.log.entries c.say_kept.result c.reserve.ensures.same ((rw c.reserve.ensures.stays at c.say_kept.ensures.says) c.requires)

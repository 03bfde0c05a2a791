use Rattle.std.proofs.lemmas.Result.{err_from_is_err_and}
use Rattle.apd_text.specs.declared.entry.Entry.TheVariants as entries
use Rattle.apd_talk.specs.Speech.{one}
use Rattle.apd_talk.proofs.Speaking.{Says-err, Says-ok}
use Rattle.apd_session.proofs.diagnosing.refuse.Goals as goal

pub returns-in_err-say-clause-says : goal.returns-in_err-say-clause-says
returns-in_err-say-clause-says g c = let p = err_from_is_err_and c.from_residual.result c.from_residual.ensures.1 in rw (p.1, p.2) (Says-err (one (entries.Refused c.args.refusal)) _ _ _ c.in_err-say.ensures)

pub returns-clause-says : goal.returns-clause-says
returns-clause-says g c = Says-ok (one (entries.Refused c.args.refusal)) _ _ _ _ c.in_ok-say.ensures

use Rattle.std.proofs.Common.{refl}
use Rattle.std.proofs.lemmas.Result.{err_from_is_err_and}
use Rattle.apd_talk.specs.Speech.{one}
use Rattle.apd_talk.proofs.Speaking.{Says-none}
use Rattle.apd_text.specs.declared.entry.Entry.TheVariants.{Symptom}
use Rattle.apd_text.specs.declared.entry.Told.TheVariants.{Missing}
use Rattle.apd_session.proofs.diagnosing.keep_missing.Goals as goal

pub returns-in_err-copy-clause-says : goal.returns-in_err-copy-clause-says
returns-in_err-copy-clause-says g c =
    let e = err_from_is_err_and c.from_residual.result c.from_residual.ensures.1 in
    rw (e.1, e.2) (Says-none (one (Symptom (Missing c.args.atom.now c.args.box_no))) _ _ refl refl refl refl refl refl)

pub keep_symptom-requires : goal.keep_symptom-requires
keep_symptom-requires g c = rw c.in_ok-copy.ensures c.requires

pub returns-clause-replies : goal.returns-clause-replies
returns-clause-replies g c = rw c.in_ok-copy.ensures at c.keep_symptom.ensures.replies

pub returns-clause-says : goal.returns-clause-says
returns-clause-says g c = rw c.in_ok-copy.ensures at c.keep_symptom.ensures.says

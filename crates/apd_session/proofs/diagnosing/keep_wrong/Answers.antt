use Rattle.std.proofs.Common.{refl, sym}
use Rattle.std.proofs.lemmas.Result.{err_from_is_err_and}
use Rattle.std.proofs.lemmas.Option.{slice_get_within}
use Rattle.apd_talk.specs.Speech.{one}
use Rattle.apd_talk.proofs.Speaking.{Says-err, Says-none, Says-ok}
use Rattle.apd_text.specs.declared.entry.Entry.TheVariants.{Symptom}
use Rattle.apd_session.specs.Steps.{wrong_of}
use Rattle.apd_session.proofs.Symptoms.{head_is}
use Rattle.apd_session.proofs.diagnosing.keep_wrong.Goals as goal

pub tuple-requires : goal.tuple-requires
tuple-requires g c = slice_get_within _ _ c.requires.user.point c.requires.user.there

pub returns-in_err-head-clause-says : goal.returns-in_err-head-clause-says
returns-in_err-head-clause-says g c =
    let e = err_from_is_err_and c.from_residual.result c.from_residual.ensures.1 in
    rw (e.1, e.2) (Says-none (one (Symptom (wrong_of c.args.history.now c.args.exit.0))) _ _ refl refl refl refl refl refl)

pub returns-in_err-copy-clause-says : goal.returns-in_err-copy-clause-says
returns-in_err-copy-clause-says g c =
    let e = err_from_is_err_and c.from_residual-in_err-copy.result c.from_residual-in_err-copy.ensures.1 in
    rw (e.1, e.2) (Says-none (one (Symptom (wrong_of c.args.history.now c.args.exit.0))) _ _ refl refl refl refl refl refl)

pub keep_symptom-requires : goal.keep_symptom-requires
keep_symptom-requires g c =
    let user = c.requires.user in
    let head = head_is c.args.history.now c.args.exit.0 user.point c.in_ok-head.field-0 user.there (rw user.there at c.in_ok-head.ensures) in
    rw (c.in_ok-copy.ensures, ← head) c.requires.named

pub returns-in_err-keep_symptom-clause-says : goal.returns-in_err-keep_symptom-clause-says
returns-in_err-keep_symptom-clause-says g c =
    let user = c.requires.user in
    let head = head_is c.args.history.now c.args.exit.0 user.point c.in_ok-head.field-0 user.there (rw user.there at c.in_ok-head.ensures) in
    let e = err_from_is_err_and c.from_residual-in_err-keep_symptom.result c.from_residual-in_err-keep_symptom.ensures.1 in
    rw (e.1, e.2) (Says-err (one (Symptom (wrong_of c.args.history.now c.args.exit.0))) _ _ _ (rw (c.in_ok-copy.ensures, ← head) at c.in_err-keep_symptom.ensures.says))

pub returns-clause-head : goal.returns-clause-head
returns-clause-head g c =
    let user = c.requires.user in
    sym (head_is c.args.history.now c.args.exit.0 user.point c.in_ok-head.field-0 user.there (rw user.there at c.in_ok-head.ensures))

pub returns-clause-replies : goal.returns-clause-replies
returns-clause-replies g c =
    let user = c.requires.user in
    let head = head_is c.args.history.now c.args.exit.0 user.point c.in_ok-head.field-0 user.there (rw user.there at c.in_ok-head.ensures) in
    rw (c.in_ok-copy.ensures, ← head) at c.in_ok-keep_symptom.ensures.replies

pub returns-clause-says : goal.returns-clause-says
returns-clause-says g c =
    let user = c.requires.user in
    let head = head_is c.args.history.now c.args.exit.0 user.point c.in_ok-head.field-0 user.there (rw user.there at c.in_ok-head.ensures) in
    Says-ok (one (Symptom (wrong_of c.args.history.now c.args.exit.0))) _ _ _ _ (rw (c.in_ok-copy.ensures, ← head) at c.in_ok-keep_symptom.ensures.says)

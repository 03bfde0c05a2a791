use Rattle.std.proofs.Common.{append_assoc}
use Rattle.std.proofs.lemmas.Result.{err_from_is_err_and}
use Rattle.std.specs.Prelude.{Err}
use Rattle.apd_text.specs.declared.entry.Entry.TheVariants.{ReferenceLoaded}
use Rattle.apd_talk.specs.Speech.{Speech, one}
use Rattle.apd_session.specs.Opening.{reviewed_said}
use Rattle.apd_session.specs.Steps.{remarks}
use Rattle.apd_session.specs.declared.notes.Noted.TheVariants.{PassedOver, Called}
use Rattle.apd_talk.proofs.Speaking.{Says-as, Says-less, Says-more, Says-nothing, both}
use Rattle.apd_session.proofs.notes.say_reference.Goals as goal

pub returns-in_err-say_remarks-in-Some : goal.returns-in_err-say_remarks-in-Some
unfolding reviewed_said
returns-in_err-say_remarks-in-Some g c =
    let passed : Speech = λ ops names. remarks ops names PassedOver c.in-Some.reviewed.passed in
    let called : Speech = λ ops names. remarks ops names Called c.in-Some.reviewed.called in
    let loaded : Speech = one (ReferenceLoaded c.in-Some.reviewed.clauses) in
    let p = err_from_is_err_and c.from_residual.result c.from_residual.ensures.1 in
    rw (p.1, p.2, c.in-Some.is)
    (Says-as (both (both passed called) loaded) (both passed (both called loaded)) _ _ (Err _) (λ ops names. append_assoc (passed ops names) (called ops names) (loaded ops names))
    (Says-less (both passed called) loaded _ _ _ (rw (c.as_slice-passed.ensures, c.as_slice-called.ensures) at c.in_err-say_remarks-in-Some.ensures)))

pub returns-in_ok-say_remarks-in-Some : goal.returns-in_ok-say_remarks-in-Some
unfolding reviewed_said
returns-in_ok-say_remarks-in-Some g c =
    let passed : Speech = λ ops names. remarks ops names PassedOver c.in-Some.reviewed.passed in
    let called : Speech = λ ops names. remarks ops names Called c.in-Some.reviewed.called in
    let loaded : Speech = one (ReferenceLoaded c.in-Some.reviewed.clauses) in
    rw c.in-Some.is
    (Says-as (both (both passed called) loaded) (both passed (both called loaded)) _ _ c.say.result (λ ops names. append_assoc (passed ops names) (called ops names) (loaded ops names))
    (Says-more (both passed called) loaded _ c.say_remarks.new.voice _ _ c.say.result (rw (c.as_slice-passed.ensures, c.as_slice-called.ensures) at c.in_ok-say_remarks-in-Some.ensures) c.say.ensures))

pub returns-in-None : goal.returns-in-None
returns-in-None g c = rw c.in-None.is (Says-nothing c.args.voice.now tt)

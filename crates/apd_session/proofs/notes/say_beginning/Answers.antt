use Rattle.std.proofs.Common.{◌≡◌, ◌∙◌, ◌++◌, List, ℕ, ap, append_assoc, sym}
use Rattle.std.proofs.lemmas.Result.{err_from_is_err_and}
use Rattle.std.specs.Prelude.{Err}
use Rattle.apd_ops.specs.Table.{Table}
use Rattle.apd_text.specs.declared.entry.Entry.{Entry}
use Rattle.apd_text.specs.declared.entry.Entry.TheVariants.{Loaded}
use Rattle.apd_talk.specs.Speech.{Speech, one}
use Rattle.apd_talk.specs.Utterance.{Utterance}
use Rattle.apd_session.specs.Opening.{beginning_said, further_said, load_said}
use Rattle.apd_session.specs.Steps.{remarks}
use Rattle.apd_session.specs.declared.notes.Noted.TheVariants.{PassedOver, Called}
use Rattle.apd_session.specs.declared.opening.Beginning.{Beginning}
use Rattle.apd_talk.proofs.Speaking.{Says-as, Says-less, Says-more, both}
use Rattle.apd_session.proofs.notes.say_beginning.Goals as goal

-- the remarks, that the program is loaded, and what is said of the other files
abbrev noted : Beginning → Speech
noted b = both (λ ops names. remarks ops names PassedOver b.passed) (λ ops names. remarks ops names Called b.called)

abbrev further : Beginning → Speech
further b ops names = further_said ops names b

abbrev in_turn : Beginning → Speech
in_turn b = both (noted b) (both (one (Loaded b.clauses)) (further b))

beginning_is : (b : Beginning) (ops : Table) (names : List (List ℕ)) → in_turn b ops names ≡ beginning_said ops names b
unfolding load_said
beginning_is b ops names =
    let loaded : List (Utterance Entry) = one (Loaded b.clauses) ops names in
    sym (append_assoc (noted b ops names) loaded (further b ops names))
    ∙ ap (λ (us : List (Utterance Entry)). us ++ further b ops names) (append_assoc (remarks ops names PassedOver b.passed) (remarks ops names Called b.called) loaded)

pub returns-in_err-say_remarks : goal.returns-in_err-say_remarks
returns-in_err-say_remarks g c =
    let b : Beginning = c.args.beginning.now in
    let p = err_from_is_err_and c.from_residual.result c.from_residual.ensures.1 in
    rw (p.1, p.2)
    (Says-as (in_turn b) (λ ops names. beginning_said ops names b) _ _ (Err _) (λ ops names. beginning_is b ops names)
    (Says-less (noted b) (both (one (Loaded b.clauses)) (further b)) _ _ _ (rw (c.as_slice-passed.ensures, c.as_slice-called.ensures) at c.in_err-say_remarks.ensures)))

pub returns-in_err-say : goal.returns-in_err-say
returns-in_err-say g c =
    let b : Beginning = c.args.beginning.now in
    let p = err_from_is_err_and c.from_residual-in_err-say.result c.from_residual-in_err-say.ensures.1 in
    rw (p.1, p.2)
    (Says-as (in_turn b) (λ ops names. beginning_said ops names b) _ _ (Err _) (λ ops names. beginning_is b ops names)
    (Says-more (noted b) (both (one (Loaded b.clauses)) (further b)) _ c.say_remarks.new.voice _ _ (Err _) (rw (c.as_slice-passed.ensures, c.as_slice-called.ensures) at c.in_ok-say_remarks.ensures)
    (Says-less (one (Loaded b.clauses)) (further b) _ _ _ c.in_err-say.ensures)))

pub returns : goal.returns
returns g c =
    let b : Beginning = c.args.beginning.now in
    Says-as (in_turn b) (λ ops names. beginning_said ops names b) _ _ c.say_further.result (λ ops names. beginning_is b ops names)
    (Says-more (noted b) (both (one (Loaded b.clauses)) (further b)) _ c.say_remarks.new.voice _ _ c.say_further.result (rw (c.as_slice-passed.ensures, c.as_slice-called.ensures) at c.in_ok-say_remarks.ensures)
    (Says-more (one (Loaded b.clauses)) (further b) _ c.say.new.self _ _ c.say_further.result c.in_ok-say.ensures c.say_further.ensures))

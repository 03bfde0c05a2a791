use Rattle.std.proofs.Common.{ℕ, List, ◌++◌, ap, ◌∙◌, refl}
use Rattle.std.proofs.lemmas.Result.{err_from_is_err_and}
use Rattle.apd_kept.specs.Kept.{known_text}
use Rattle.apd_session.specs.Steps.{store_said}
use Rattle.apd_talk.proofs.Speaking.{Says-err, Says-none, Says-ok}
use Rattle.apd_session.proofs.Stored.{can_read_back, store_is_said}
use Rattle.apd_session.proofs.knowing.tell.Goals as goal

pub returns-clause-back : goal.returns-clause-back
returns-clause-back g c = λ plain. (rw c.log-log.ensures at c.in_ok-known_text.ensures.back) (can_read_back c.args.voice.now.log.ops c.args.voice.now.log.names c.args.replies.now c.requires.named plain)

pub returns-in_err-known_text-clause-says : goal.returns-in_err-known_text-clause-says
returns-in_err-known_text-clause-says g c =
    let p = err_from_is_err_and c.from_residual.result c.from_residual.ensures.1 in
    rw (p.1, p.2) (Says-none (λ ops names. store_said ops names c.args.replies.now) _ _ refl refl refl refl refl refl)

pub returns-in_err-say-clause-says : goal.returns-in_err-say-clause-says
returns-in_err-say-clause-says g c =
    let e = err_from_is_err_and c.from_residual-in_err-say.result c.from_residual-in_err-say.ensures.1 in
    let text_is = (rw c.log-log.ensures at c.in_ok-known_text.ensures.text) ∙ ap (λ (t : List ℕ). t ++ known_text c.args.voice.now.log.ops c.args.voice.now.log.names c.args.replies.now) c.new-text.ensures in
    rw (e.1, e.2)
    (Says-err (λ ops names. store_said ops names c.args.replies.now) _ _ _ (store_is_said c.args.replies.now _ _ _ _ c.requires.standard c.requires.named text_is c.in_err-say.ensures))

pub returns-clause-says : goal.returns-clause-says
returns-clause-says g c =
    let text_is = (rw c.log-log.ensures at c.in_ok-known_text.ensures.text) ∙ ap (λ (t : List ℕ). t ++ known_text c.args.voice.now.log.ops c.args.voice.now.log.names c.args.replies.now) c.new-text.ensures in
    Says-ok (λ ops names. store_said ops names c.args.replies.now) _ _ c.in_ok-say.field-0 _ (store_is_said c.args.replies.now _ _ _ _ c.requires.standard c.requires.named text_is c.in_ok-say.ensures)

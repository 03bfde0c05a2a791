use Rattle.std.proofs.Common.{◌≡◌, None, Err, Ok, refl, sym, ◌∙◌, subst}
use Rattle.apd_answers.specs.declared.question.Asked.{Asked}
use Rattle.apd_answers.specs.declared.oracle.AskEnd.TheVariants.{Memory}
use Rattle.apd_answers.specs.Oracle.{asking, telling}
use Rattle.apd_answers.specs.Questions.{FitsAsked, is_yes}
use Rattle.apd_wrong.proofs.Judging.{by_error}
use Rattle.apd_loop.proofs.Turns.{put, put-is, turn_decided, breaks_unasked, breaks_unanswered, breaks_unkept, breaks-kept, turn_replied, breaks_untold, decided-no, replied-no}
use Rattle.apd_loop.proofs.asking.decide.Goals as goal

pub returns-in_err-reply-clause-turn : goal.returns-in_err-reply-clause-turn
returns-in_err-reply-clause-turn g c = λ R chain strategy state s t a.
    by_error c.from_residual.result _ _ (λ e. e ≡ Memory) c.from_residual.ensures
    (λ e m. breaks_unasked R chain strategy g.O.Oracle.step c.args.answers.now state c.args.oracle.now e m)

pub returns-in-Some-clause-turn : goal.returns-in-Some-clause-turn
returns-in-Some-clause-turn g c = λ R chain strategy state s t a.
    turn_decided R chain strategy g.O.Oracle.step c.args.asked.now.question state s t c.args.answers.now c.args.oracle.now c.in-Some.reply c.is_yes-yes.result a
    (sym c.in_ok-reply.ensures ∙ c.in-Some.is) c.is_yes-yes.ensures

pub returns-in-Some-clause-denied : goal.returns-in-Some-clause-denied
returns-in-Some-clause-denied g c = λ atom is no.
    decided-no c.args.answers.now c.args.asked.now.question atom c.in-Some.reply c.is_yes-yes.result is (sym c.in_ok-reply.ensures ∙ c.in-Some.is) c.is_yes-yes.ensures no

pub returns-in_err-reply-2-clause-turn : goal.returns-in_err-reply-2-clause-turn
returns-in_err-reply-2-clause-turn g c = λ R chain strategy state s t a.
    let q = c.args.asked.now.question in
    by_error c.from_residual-in_err-reply-2.result _ _ (λ e. e ≡ c.in_err-reply-2.field-0.0) c.from_residual-in_err-reply-2.ensures
    (λ e m. breaks_unanswered R chain strategy g.O.Oracle.step q state s t c.args.answers.now c.args.oracle.now c.ask.new.self e a (sym c.in_ok-reply.ensures ∙ c.in_default.is)
    (subst (λ z. g.O.Oracle.step c.args.oracle.now (asking (put q) (Err z)) c.ask.new.self) (sym m)
    (subst (λ (x : Asked). g.O.Oracle.step c.args.oracle.now (asking x (Err c.in_err-reply-2.field-0.0)) c.ask.new.self) (put-is c.args.asked.now c.requires) c.in_err-reply-2.ensures.step)))

pub returns-in-Err-clause-turn : goal.returns-in-Err-clause-turn
returns-in-Err-clause-turn g c = λ R chain strategy state s t a.
    let q = c.args.asked.now.question in
    let same = put-is c.args.asked.now c.requires in
    breaks-kept R chain strategy g.O.Oracle.step c.args.answers.now c.add.new.self state c.args.oracle.now c.ask.new.self Memory c.in-Err.ensures.err
    (breaks_unkept R chain strategy g.O.Oracle.step q state s t c.args.answers.now c.args.oracle.now c.ask.new.self c.in_ok-reply-2.reply Memory a (sym c.in_ok-reply.ensures ∙ c.in_default.is)
    (subst (λ (x : Asked). FitsAsked x c.in_ok-reply-2.reply) same c.in_ok-reply-2.ensures.fits)
    (subst (λ (x : Asked). g.O.Oracle.step c.args.oracle.now (asking x (Ok c.in_ok-reply-2.reply)) c.ask.new.self) same c.in_ok-reply-2.ensures.step) refl)

pub returns-in_err-told-in-Ok-clause-turn : goal.returns-in_err-told-in-Ok-clause-turn
returns-in_err-told-in-Ok-clause-turn g c = λ R chain strategy state s t a.
    let q = c.args.asked.now.question in
    let same = put-is c.args.asked.now c.requires in
    by_error c.from_residual-in_err-told-in-Ok.result _ _ (λ e. e ≡ c.in_err-told-in-Ok.field-0.0) c.from_residual-in_err-told-in-Ok.ensures
    (λ e m. breaks_untold R chain strategy g.O.Oracle.step q state s t c.args.answers.now c.add.new.self c.args.oracle.now c.ask.new.self c.told-told.new.self c.in_ok-reply-2.reply (is_yes c.in_ok-reply-2.reply) e a
    (sym c.in_ok-reply.ensures ∙ c.in_default.is) (subst (λ (x : Asked). FitsAsked x c.in_ok-reply-2.reply) same c.in_ok-reply-2.ensures.fits) c.in-Ok.ensures.ok refl
    (subst (λ (x : Asked). g.O.Oracle.step c.args.oracle.now (asking x (Ok c.in_ok-reply-2.reply)) c.ask.new.self) same c.in_ok-reply-2.ensures.step)
    (subst (λ z. g.O.Oracle.step c.ask.new.self (telling c.in_ok-reply-2.reply None (Err z)) c.told-told.new.self) (sym m) c.in_err-told-in-Ok.ensures.step))

pub returns-in_ok-told-in-Ok-clause-turn : goal.returns-in_ok-told-in-Ok-clause-turn
returns-in_ok-told-in-Ok-clause-turn g c = λ R chain strategy state s t a.
    let q = c.args.asked.now.question in
    let same = put-is c.args.asked.now c.requires in
    turn_replied R chain strategy g.O.Oracle.step q state s t c.args.answers.now c.add.new.self c.args.oracle.now c.ask.new.self c.told-told.new.self c.in_ok-reply-2.reply c.is_yes-yes-in-Ok.result a
    (sym c.in_ok-reply.ensures ∙ c.in_default.is) (subst (λ (x : Asked). FitsAsked x c.in_ok-reply-2.reply) same c.in_ok-reply-2.ensures.fits) c.in-Ok.ensures.ok c.is_yes-yes-in-Ok.ensures
    (subst (λ (x : Asked). g.O.Oracle.step c.args.oracle.now (asking x (Ok c.in_ok-reply-2.reply)) c.ask.new.self) same c.in_ok-reply-2.ensures.step) c.in_ok-told-in-Ok.ensures.step

pub returns-in_ok-told-in-Ok-clause-denied : goal.returns-in_ok-told-in-Ok-clause-denied
returns-in_ok-told-in-Ok-clause-denied g c = λ atom is no.
    replied-no c.args.answers.now c.add.new.self c.args.asked.now.question atom c.in_ok-reply-2.reply c.is_yes-yes-in-Ok.result is
    (subst (λ (x : Asked). FitsAsked x c.in_ok-reply-2.reply) (put-is c.args.asked.now c.requires) c.in_ok-reply-2.ensures.fits) c.in-Ok.ensures.ok c.is_yes-yes-in-Ok.ensures no

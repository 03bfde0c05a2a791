use Rattle.std.proofs.Common.{Ok, Err, length, sym, ◌∙◌}
use Rattle.std.proofs.lemmas.Result.{err_from_is_err_and}
use Rattle.apd_talk.specs.Moment.{moment}
use Rattle.apd_oracle.proofs.Waiting.{given_so, not_given, waited_for}
use Rattle.apd_oracle.proofs.asking.answer_question.Goals as goal

pub returns-in_err-given-clause-heard : goal.returns-in_err-given-clause-heard
returns-in_err-given-clause-heard g c =
    let e = err_from_is_err_and c.from_residual.result c.from_residual.ensures.1 in
    rw (e.1, e.2)
    (not_given (g.R.Replier.replies c.args.replier.now c.args.asked.now.question) c.args.asked.now (moment g.S.Source c.args.desk.now) c.keeps_its_limits.ensures)

pub returns-in-Some-clause-heard : goal.returns-in-Some-clause-heard
returns-in-Some-clause-heard g c =
    given_so (g.R.Replier.replies c.args.replier.now c.args.asked.now.question) c.args.asked.now c.in-Some.given (moment g.S.Source c.args.desk.now) c.keeps_its_limits.ensures
    (sym c.in_ok-given.ensures.reply ∙ c.in-Some.is)

pub returns-in-Some-clause-fits : goal.returns-in-Some-clause-fits
returns-in-Some-clause-fits g c =
    let fits = c.in_ok-given.ensures.fits c.args.asked.now.question c.in-Some.given (sym c.in_ok-given.ensures.reply ∙ c.in-Some.is) in
    (fits.0, λ unknown. absurd (fits.1 unknown))

pub returns-in-Some-clause-reply : goal.returns-in-Some-clause-reply
returns-in-Some-clause-reply g c = λ named.
    let is = sym c.in_ok-given.ensures.reply ∙ c.in-Some.is in
    (returns-in-Some-clause-fits g c, c.in_ok-given.ensures.named (length c.args.desk.now.voice.now.log.names) c.requires.few c.args.asked.now.question c.in-Some.given named is)

pub returns-in_err-heard-clause-heard : goal.returns-in_err-heard-clause-heard
returns-in_err-heard-clause-heard g c =
    let e = err_from_is_err_and c.from_residual-in_err-heard.result c.from_residual-in_err-heard.ensures.1 in
    rw (e.1, e.2)
    (waited_for (g.R.Replier.replies c.args.replier.now c.args.asked.now.question) c.args.asked.now (moment g.S.Source c.args.desk.now)
    (moment g.S.Source c.hear_reply.new.desk) (Err c.in_err-heard.field-0.0) (sym c.in_ok-given.ensures.reply ∙ c.in_default.is) c.in_err-heard.ensures.heard)

pub returns-clause-heard : goal.returns-clause-heard
returns-clause-heard g c =
    waited_for (g.R.Replier.replies c.args.replier.now c.args.asked.now.question) c.args.asked.now (moment g.S.Source c.args.desk.now)
    (moment g.S.Source c.hear_reply.new.desk) (Ok c.in_ok-heard.heard) (sym c.in_ok-given.ensures.reply ∙ c.in_default.is) c.in_ok-heard.ensures.heard

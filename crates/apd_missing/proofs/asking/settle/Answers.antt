use Rattle.std.proofs.Common.{◌≡◌, ◌∙◌, refl, sym}
use Rattle.apd_answers.specs.declared.oracle.AskEnd.TheVariants.{Memory}
use Rattle.apd_missing.specs.Solving.{by_store, unasked}
use Rattle.apd_missing.proofs.Settling.{by_error, replied_by_oracle, unanswered_by, unkept_by, untold_by}
use Rattle.apd_missing.proofs.asking.settle.Goals as goal

pub returns-in_err-reply-clause-settled : goal.returns-in_err-reply-clause-settled
returns-in_err-reply-clause-settled g c = by_error c.from_residual.result _ _ (λ e. e ≡ Memory) c.from_residual.ensures (λ e m. unasked m)

pub returns-in-Some-clause-settled : goal.returns-in-Some-clause-settled
returns-in-Some-clause-settled g c = by_store c.in-Some.reply (sym c.in_ok-reply.ensures ∙ c.in-Some.is)

pub returns-in_err-reply-2-clause-settled : goal.returns-in_err-reply-2-clause-settled
returns-in_err-reply-2-clause-settled g c =
    by_error c.from_residual-in_err-reply-2.result _ _ (λ e. e ≡ c.in_err-reply-2.field-0.0) c.from_residual-in_err-reply-2.ensures
    (λ e m. unanswered_by g.O.Oracle.step c.args.asked.now c.args.answers.now c.args.oracle.now c.ask.new.self e c.in_err-reply-2.field-0.0 (sym c.in_ok-reply.ensures ∙ c.in_default.is) m c.in_err-reply-2.ensures.step)

pub returns-in-Err-clause-settled : goal.returns-in-Err-clause-settled
returns-in-Err-clause-settled g c =
    unkept_by g.O.Oracle.step c.args.asked.now c.args.answers.now c.add.new.self c.args.oracle.now c.ask.new.self c.in_ok-reply-2.reply Memory (sym c.in_ok-reply.ensures ∙ c.in_default.is)
    c.in_ok-reply-2.ensures.fits c.in-Err.ensures.err refl c.in_ok-reply-2.ensures.step

pub returns-in-Err-told-clause-settled : goal.returns-in-Err-told-clause-settled
returns-in-Err-told-clause-settled g c =
    untold_by g.O.Oracle.step c.args.asked.now c.args.answers.now c.add.new.self c.args.oracle.now c.ask.new.self c.told.new.self c.in_ok-reply-2.reply c.in-Err-told.end c.in-Err-told.end
    (sym c.in_ok-reply.ensures ∙ c.in_default.is) c.in_ok-reply-2.ensures.fits c.in-Ok.ensures.ok refl c.in_ok-reply-2.ensures.step c.in-Err-told.ensures.step

pub returns-in-Ok-told-clause-settled : goal.returns-in-Ok-told-clause-settled
returns-in-Ok-told-clause-settled g c =
    replied_by_oracle g.O.Oracle.step c.args.asked.now c.args.answers.now c.add.new.self c.args.oracle.now c.ask.new.self c.told.new.self c.in_ok-reply-2.reply (sym c.in_ok-reply.ensures ∙ c.in_default.is)
    c.in_ok-reply-2.ensures.fits c.in-Ok.ensures.ok c.in_ok-reply-2.ensures.step c.in-Ok-told.ensures.step

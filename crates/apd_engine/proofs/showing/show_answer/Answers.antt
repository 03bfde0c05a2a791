use Rattle.std.proofs.Common.{refl, inl}
use Rattle.std.proofs.lemmas.Result.{err_from_is_err_and}
use Rattle.apd_ports.specs.declared.hook.Shown.TheVariants.{Answer}
use Rattle.apd_engine.proofs.Faults.{hook_fails, hook_counts}
use Rattle.apd_engine.proofs.showing.show_answer.Goals as goal

pub returns-in_err-tell_answer-clause-told : goal.returns-in_err-tell_answer-clause-told
returns-in_err-tell_answer-clause-told g c =
    let p = err_from_is_err_and c.from_residual.result c.from_residual.ensures.1 in rw p.1 tt

pub returns-in_err-tell_answer-clause-shown : goal.returns-in_err-tell_answer-clause-shown
returns-in_err-tell_answer-clause-shown g c =
    let p = err_from_is_err_and c.from_residual.result c.from_residual.ensures.1 in rw p.1 tt

pub returns-in_err-tell_answer-clause-cut : goal.returns-in_err-tell_answer-clause-cut
returns-in_err-tell_answer-clause-cut g c =
    let p = err_from_is_err_and c.from_residual.result c.from_residual.ensures.1 in rw (p.1, p.2) (inl refl)

pub returns-in_err-tell_answer-clause-cause : goal.returns-in_err-tell_answer-clause-cause
returns-in_err-tell_answer-clause-cause g c =
    let p = err_from_is_err_and c.from_residual.result c.from_residual.ensures.1 in rw (p.1, p.2) refl

pub returns-in_err-answer-clause-told : goal.returns-in_err-answer-clause-told
returns-in_err-answer-clause-told g c =
    let p = err_from_is_err_and c.from_residual-in_err-answer.result c.from_residual-in_err-answer.ensures.1 in rw p.1 tt

pub returns-in_err-answer-clause-shown : goal.returns-in_err-answer-clause-shown
returns-in_err-answer-clause-shown g c =
    let p = err_from_is_err_and c.from_residual-in_err-answer.result c.from_residual-in_err-answer.ensures.1 in rw p.1 tt

pub returns-in_err-answer-clause-cut : goal.returns-in_err-answer-clause-cut
returns-in_err-answer-clause-cut g c =
    let p = err_from_is_err_and c.from_residual-in_err-answer.result c.from_residual-in_err-answer.ensures.1 in
    rw (p.1, p.2) (hook_fails g.H.Hook.step c.args.hook.now (Answer c.args.values.now) c.answer.new.self c.in_err-answer.field-0.0 c.in_err-answer.ensures.step)

pub returns-in_err-answer-clause-cause : goal.returns-in_err-answer-clause-cause
returns-in_err-answer-clause-cause g c =
    let p = err_from_is_err_and c.from_residual-in_err-answer.result c.from_residual-in_err-answer.ensures.1 in
    rw (p.1, p.2) (hook_counts (g.H.Hook.faults c.args.hook.now) (g.H.Hook.faults c.answer.new.self) c.in_err-answer.field-0.0 c.in_err-answer.ensures.cause)

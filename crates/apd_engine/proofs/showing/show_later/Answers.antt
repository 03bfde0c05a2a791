use Rattle.std.proofs.Common.{refl, inl}
use Rattle.std.proofs.lemmas.Result.{err_from_is_err_and}
use Rattle.apd_ports.specs.declared.hook.Shown.TheVariants.{Port}
use Rattle.apd_engine.proofs.Faults.{hook_fails, hook_counts}
use Rattle.apd_engine.proofs.showing.show_later.Goals as goal

pub returns-in_err-tell_later-clause-told : goal.returns-in_err-tell_later-clause-told
returns-in_err-tell_later-clause-told g c =
    let p = err_from_is_err_and c.from_residual.result c.from_residual.ensures.1 in rw p.1 tt

pub returns-in_err-tell_later-clause-shown : goal.returns-in_err-tell_later-clause-shown
returns-in_err-tell_later-clause-shown g c =
    let p = err_from_is_err_and c.from_residual.result c.from_residual.ensures.1 in rw p.1 tt

pub returns-in_err-tell_later-clause-cut : goal.returns-in_err-tell_later-clause-cut
returns-in_err-tell_later-clause-cut g c =
    let p = err_from_is_err_and c.from_residual.result c.from_residual.ensures.1 in rw (p.1, p.2) (inl refl)

pub returns-in_err-tell_later-clause-cause : goal.returns-in_err-tell_later-clause-cause
returns-in_err-tell_later-clause-cause g c =
    let p = err_from_is_err_and c.from_residual.result c.from_residual.ensures.1 in rw (p.1, p.2) refl

pub returns-in_err-event-clause-told : goal.returns-in_err-event-clause-told
returns-in_err-event-clause-told g c =
    let p = err_from_is_err_and c.from_residual-in_err-event.result c.from_residual-in_err-event.ensures.1 in rw p.1 tt

pub returns-in_err-event-clause-shown : goal.returns-in_err-event-clause-shown
returns-in_err-event-clause-shown g c =
    let p = err_from_is_err_and c.from_residual-in_err-event.result c.from_residual-in_err-event.ensures.1 in rw p.1 tt

pub returns-in_err-event-clause-cut : goal.returns-in_err-event-clause-cut
returns-in_err-event-clause-cut g c =
    let p = err_from_is_err_and c.from_residual-in_err-event.result c.from_residual-in_err-event.ensures.1 in
    rw (p.1, p.2) (hook_fails g.H.Hook.step c.args.hook.now (Port c.args.event.now) c.event.new.self c.in_err-event.field-0.0 c.in_err-event.ensures.step)

pub returns-in_err-event-clause-cause : goal.returns-in_err-event-clause-cause
returns-in_err-event-clause-cause g c =
    let p = err_from_is_err_and c.from_residual-in_err-event.result c.from_residual-in_err-event.ensures.1 in
    rw (p.1, p.2) (hook_counts (g.H.Hook.faults c.args.hook.now) (g.H.Hook.faults c.event.new.self) c.in_err-event.field-0.0 c.in_err-event.ensures.cause)

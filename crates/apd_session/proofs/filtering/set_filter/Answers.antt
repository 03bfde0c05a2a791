use Rattle.std.proofs.Common.{length, refl}
use Rattle.std.proofs.lemmas.Result.{err_from_is_err_and}
use Rattle.apd_text.specs.declared.entry.Entry.TheVariants.{TraceSet}
use Rattle.apd_talk.specs.Speech.{one}
use Rattle.apd_talk.proofs.Speaking.{Says-err, Says-none, Says-ok}
use Rattle.apd_session.proofs.Turning.{ready_filters}
use Rattle.apd_session.proofs.filtering.set_filter.Goals as goal

pub returns-in_err-told-clause-says : goal.returns-in_err-told-clause-says
returns-in_err-told-clause-says g c = let p = err_from_is_err_and c.from_residual.result c.from_residual.ensures.1 in rw (p.1, p.2) (Says-none (one (TraceSet c.args.filter)) _ _ refl refl refl refl refl refl)

pub say-requires : goal.say-requires
say-requires g c = rw c.in_ok-told.ensures (c.requires.ready.standard, c.requires.named)

pub returns-in_err-say-clause-says : goal.returns-in_err-say-clause-says
returns-in_err-say-clause-says g c =
    let p = err_from_is_err_and c.from_residual-in_err-say.result c.from_residual-in_err-say.ensures.1 in
    rw (p.1, p.2) (Says-err (one (TraceSet c.args.filter)) _ _ _ (rw c.in_ok-told.ensures at c.in_err-say.ensures))

pub returns-clause-says : goal.returns-clause-says
returns-clause-says g c = Says-ok (one (TraceSet c.args.filter)) _ _ _ _ (rw c.in_ok-told.ensures at c.in_ok-say.ensures)

pub returns-clause-ready : goal.returns-clause-ready
returns-clause-ready g c = ready_filters (length c.args.voice.now.log.names) c.args.state.now c.args.filter c.requires.ready

use Rattle.std.proofs.Common.{subst, sym, inl, ◌∙◌, ap}
use Rattle.std.proofs.lemmas.Result.{err_from_is_err_and}
use Rattle.apd_clauses.specs.Clauses.{tuples_of}
use Rattle.apd_clauses.proofs.Pure.{goals_are_atoms}
use Rattle.apd_record.specs.Sound.{IsKept}
use Rattle.apd_recorded.proofs.Law.{run_sound}
use Rattle.apd_recorded.proofs.Recording.{program_clauses}
use Rattle.apd_engine.specs.Progress.{IsFirst, record_at}
use Rattle.apd_engine.specs.declared.progress.Progress.{Progress}
use Rattle.apd_record.specs.Open.{AreIn}
use Rattle.apd_ports.specs.Hook.{GoesThrough}
use Rattle.apd_trace.specs.Run.{Run, query_run, ran_of, shown_of}
use Rattle.apd_recorded.specs.Told.{record_of}
use Rattle.apd_engine.specs.Cut.{IsCut}
use Rattle.apd_engine.proofs.Passing.{come_first, starts_on}
use Rattle.apd_engine.proofs.RunFacts.{goes_nowhere}
use Rattle.apd_engine.proofs.RecordLaw.{run_may_be_told}
use Rattle.apd_engine.proofs.running.recorded.Goals as goal

pub pass_all-requires : goal.pass_all-requires
pass_all-requires g c =
    λ κs sub. (
      sub,
      (
        c.count-count.ensures.program,
        (
          c.requires.budget_limit,
          (
            c.requires.answers_limit,
            starts_on g.H.Hook.step g.H.Hook.faults c.args.hook.now (tuples_of c.args.program.now) c.args.query.now.tuple c.args.limits c.deref_mut.result.now c.requires.answers c.requires.runnable.body.few (subst (IsFirst c.args.query.now.tuple) (sym c.deref_mut.ensures.value) c.in_ok-progress.ensures)
                (run_may_be_told c.args.program.now c.args.query.now.tuple c.args.limits.budget c.args.limits.answers c.count-count.ensures.program c.requires.runnable.body),
          ),
        ),
      ),
    )

pub returns-in_err-progress-clause-cut : goal.returns-in_err-progress-clause-cut
returns-in_err-progress-clause-cut g c =
    let p = err_from_is_err_and c.from_residual.result c.from_residual.ensures.1 in
    rw (p.1, p.2) (inl (goes_nowhere g.H.Hook.step c.args.hook.now (shown_of (query_run (tuples_of c.args.program.now) c.args.query.now.tuple c.args.limits.budget c.args.limits.answers).passed)))

pub returns-in-Err-clause-cut : goal.returns-in-Err-clause-cut
returns-in-Err-clause-cut g c =
    let same = come_first (tuples_of c.args.program.now) c.args.query.now.tuple c.args.limits c.deref_mut.result.now (subst (IsFirst c.args.query.now.tuple) (sym c.deref_mut.ensures.value) c.in_ok-progress.ensures) in
    subst (λ (r : Run). IsCut g.H.Hook.step c.args.hook.now (shown_of r.passed) c.pass_all.new.hook c.in-Err.fault) same c.in-Err.ensures.cut

pub into_record-requires-clause-sound : goal.into_record-requires-clause-sound
into_record-requires-clause-sound g c =
    let same = come_first (tuples_of c.args.program.now) c.args.query.now.tuple c.args.limits c.deref_mut.result.now (subst (IsFirst c.args.query.now.tuple) (sym c.deref_mut.ensures.value) c.in_ok-progress.ensures) in
    subst (λ (p : Progress). IsKept (record_at p)) (sym c.into_inner.ensures)
    (subst IsKept (sym (c.in-Ok.ensures.ended.recorded ∙ ap (λ (r : Run). record_of r.passed) same))
    (run_sound (tuples_of c.args.program.now) (program_clauses c.args.program.now c.count-count.ensures.program) c.args.query.now.tuple (goals_are_atoms c.args.query.now.tuple.body c.requires.runnable.body.goals) c.args.limits.budget c.args.limits.answers).kept)

pub into_record-requires-clause-there : goal.into_record-requires-clause-there
into_record-requires-clause-there g c = subst (λ (p : Progress). AreIn p.search.frames.tuples p.rows) (sym c.into_inner.ensures) c.in-Ok.ensures.ended.there

pub returns-in-Ok-clause-shown : goal.returns-in-Ok-clause-shown
returns-in-Ok-clause-shown g c =
    let same = come_first (tuples_of c.args.program.now) c.args.query.now.tuple c.args.limits c.deref_mut.result.now (subst (IsFirst c.args.query.now.tuple) (sym c.deref_mut.ensures.value) c.in_ok-progress.ensures) in
    subst (λ (r : Run). GoesThrough g.H.Hook.step c.args.hook.now (shown_of r.passed) c.pass_all.new.hook) same c.in-Ok.ensures.ended.shown.shown

pub returns-in-Ok-clause-ran : goal.returns-in-Ok-clause-ran
returns-in-Ok-clause-ran g c =
    let same = come_first (tuples_of c.args.program.now) c.args.query.now.tuple c.args.limits c.deref_mut.result.now (subst (IsFirst c.args.query.now.tuple) (sym c.deref_mut.ensures.value) c.in_ok-progress.ensures) in
    c.in-Ok.ensures.ended.shown.told ∙ ap ran_of same

pub returns-in-Ok-clause-recorded : goal.returns-in-Ok-clause-recorded
returns-in-Ok-clause-recorded g c =
    let same = come_first (tuples_of c.args.program.now) c.args.query.now.tuple c.args.limits c.deref_mut.result.now (subst (IsFirst c.args.query.now.tuple) (sym c.deref_mut.ensures.value) c.in_ok-progress.ensures) in
    c.replace.ensures.after ∙ c.into_record.ensures ∙ ap record_at c.into_inner.ensures ∙ c.in-Ok.ensures.ended.recorded ∙ ap (λ (r : Run). record_of r.passed) same

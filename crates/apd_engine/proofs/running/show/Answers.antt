use Rattle.std.proofs.Common.{List, subst, sym, inl, ◌∙◌}
use Rattle.std.proofs.lemmas.Result.{err_from_is_err_and, IfOk-weaker, MatchResult-weaker}
use Rattle.apd_clauses.specs.Clauses.{tuples_of}
use Rattle.apd_ports.specs.Hook.{GoesThrough}
use Rattle.apd_ports.specs.declared.hook.Shown.{Shown}
use Rattle.apd_trace.specs.Run.{query_run, shown_of}
use Rattle.apd_engine.specs.Cut.{IsCut}
use Rattle.apd_engine.specs.Unrecorded.{IsFirstShown}
use Rattle.apd_engine.specs.declared.progress.Limits.{Limits}
use Rattle.apd_engine.proofs.Shown.{first_ran_left, first_shown_left, starts_shown}
use Rattle.apd_engine.proofs.RunFacts.{goes_nowhere}
use Rattle.apd_engine.proofs.running.show.Goals as goal

pub pass_all-ran-requires : goal.pass_all-ran-requires
pass_all-ran-requires g c =
    let limits : Limits = record { budget = c.args.budget; answers = c.args.answers } in
    λ κs sub. (
      sub,
      (
        c.count-count.ensures.program,
        (
          c.requires.budget_limit,
          (
            c.requires.answers_limit,
            starts_shown (tuples_of c.args.program.now) c.args.query.now.tuple limits c.deref_mut.result.now (subst (IsFirstShown c.args.query.now.tuple) (sym c.deref_mut.ensures.value) c.in_ok-progress.ensures) g.H.Hook.step g.H.Hook.faults c.args.hook.now c.requires.answers c.requires.runnable.body.few,
          ),
        ),
      ),
    )

pub returns-in_err-progress-clause-cut : goal.returns-in_err-progress-clause-cut
returns-in_err-progress-clause-cut g c =
    let p = err_from_is_err_and c.from_residual.result c.from_residual.ensures.1 in
    rw (p.1, p.2) (inl (goes_nowhere g.H.Hook.step c.args.hook.now (shown_of (query_run (tuples_of c.args.program.now) c.args.query.now.tuple c.args.budget c.args.answers).passed)))

pub returns-clause-shown : goal.returns-clause-shown
returns-clause-shown g c =
    let limits : Limits = record { budget = c.args.budget; answers = c.args.answers } in
    let same = first_shown_left (tuples_of c.args.program.now) c.args.query.now.tuple limits c.deref_mut.result.now (subst (IsFirstShown c.args.query.now.tuple) (sym c.deref_mut.ensures.value) c.in_ok-progress.ensures) in
    IfOk-weaker c.pass_all-ran.result _ _ (λ ran h. subst (λ (xs : List Shown). GoesThrough g.H.Hook.step c.args.hook.now xs c.pass_all-ran.new.hook) same h.shown) c.pass_all-ran.ensures.ended

pub returns-clause-ran : goal.returns-clause-ran
returns-clause-ran g c =
    let limits : Limits = record { budget = c.args.budget; answers = c.args.answers } in
    let same = first_ran_left (tuples_of c.args.program.now) c.args.query.now.tuple limits c.deref_mut.result.now (subst (IsFirstShown c.args.query.now.tuple) (sym c.deref_mut.ensures.value) c.in_ok-progress.ensures) in
    IfOk-weaker c.pass_all-ran.result _ _ (λ ran h. h.told ∙ same) c.pass_all-ran.ensures.ended

pub returns-clause-cut : goal.returns-clause-cut
returns-clause-cut g c =
    let limits : Limits = record { budget = c.args.budget; answers = c.args.answers } in
    let same = first_shown_left (tuples_of c.args.program.now) c.args.query.now.tuple limits c.deref_mut.result.now (subst (IsFirstShown c.args.query.now.tuple) (sym c.deref_mut.ensures.value) c.in_ok-progress.ensures) in
    MatchResult-weaker c.pass_all-ran.result c.pass_all-ran.ensures.cut (λ ran h. h) (λ fault h. subst (λ (xs : List Shown). IsCut g.H.Hook.step c.args.hook.now xs c.pass_all-ran.new.hook fault) same h)

use Rattle.std.proofs.lemmas.Result.{err_from_is_err_and}
use Rattle.std.proofs.Common.{◌∙◌, ap}
use Rattle.apd_text.specs.declared.log.Log.{Log}
use Rattle.apd_talk.proofs.Speaking.{cause_after}
use Rattle.apd_query.proofs.Running.{run_utters, run_begins, run_breaks, run_ends}
use Rattle.apd_query.proofs.query.say_run.Goals as goal

pub returns-in_err-begin_run-clause-says : goal.returns-in_err-begin_run-clause-says
returns-in_err-begin_run-clause-says g c = let p = err_from_is_err_and c.from_residual.result c.from_residual.ensures.1 in rw (p.1, p.2) record {
  all = tt;
  front = λ names grew.
      rw grew.1
      (run_begins c.args.voice.now.log.ops c.args.voice.now.log.names grew.0 c.args.state.now c.args.query.now _ _ _ _ c.requires.ready.named c.requires.named c.in_err-begin_run.ensures.err);
  names = c.begin_run.ensures.stays.names;
  ops = c.begin_run.ensures.stays.ops;
  over = c.begin_run.ensures.stays.over;
  cause = c.in_err-begin_run.ensures.cause;
}

pub returns-in_err-ran-clause-says : goal.returns-in_err-ran-clause-says
returns-in_err-ran-clause-says g c = let p = err_from_is_err_and c.from_residual-in_err-ran.result c.from_residual-in_err-ran.ensures.1 in rw (p.1, p.2) record {
  all = tt;
  front = λ names grew.
      rw (grew.1, c.search.ensures.log)
      (run_breaks c.args.voice.now.log.ops c.args.voice.now.log.names grew.0 c.args.state.now c.args.query.now _ _ _ _ _ c.requires.ready.named c.requires.named c.in_ok-begin_run.ensures.ok.0 c.in_ok-begin_run.ensures.ok.1
      (rw (c.begin_run.ensures.stays.names, c.begin_run.ensures.stays.ops) at c.in_err-ran.ensures.err));
  names = ap (λ (l : Log). l.names) c.search.ensures.log ∙ c.begin_run.ensures.stays.names;
  ops = ap (λ (l : Log). l.ops) c.search.ensures.log ∙ c.begin_run.ensures.stays.ops;
  over = c.search.ensures.over ∙ c.begin_run.ensures.stays.over;
  cause = cause_after _ _ _ _ c.in_ok-begin_run.ensures.cause c.in_err-ran.ensures.cause;
}

pub returns-clause-says : goal.returns-clause-says
returns-clause-says g c = record {
  all = λ names grew.
      rw grew.1
      (run_utters c.args.voice.now.log.ops c.args.voice.now.log.names grew.0 c.args.state.now c.args.query.now _ c.begin_run.new.voice.log.entries.list _ _ _ _ _ c.in_ok-ran.ran c.requires.ready.named c.requires.named
      c.in_ok-begin_run.ensures.ok.0 c.in_ok-begin_run.ensures.ok.1
      (rw (c.begin_run.ensures.stays.names, c.begin_run.ensures.stays.ops) at c.in_ok-ran.ensures.lines) c.in_ok-ran.ensures.ran (rw c.search.ensures.log at c.end_run.ensures.finished) c.in_ok-end_run.ensures.ok);
  front = tt;
  names = c.end_run.ensures.stays.names ∙ ap (λ (l : Log). l.names) c.search.ensures.log ∙ c.begin_run.ensures.stays.names;
  ops = c.end_run.ensures.stays.ops ∙ ap (λ (l : Log). l.ops) c.search.ensures.log ∙ c.begin_run.ensures.stays.ops;
  over = c.end_run.ensures.stays.over ∙ c.search.ensures.over ∙ c.begin_run.ensures.stays.over;
  cause = c.in_ok-end_run.ensures.cause ∙ c.in_ok-ran.ensures.cause ∙ c.in_ok-begin_run.ensures.cause;
}

pub returns-in_err-end_run-clause-says : goal.returns-in_err-end_run-clause-says
returns-in_err-end_run-clause-says g c = let p = err_from_is_err_and c.from_residual-in_err-end_run.result c.from_residual-in_err-end_run.ensures.1 in rw (p.1, p.2) record {
  all = tt;
  front = λ names grew.
      rw grew.1
      (run_ends c.args.voice.now.log.ops c.args.voice.now.log.names grew.0 c.args.state.now c.args.query.now _ c.begin_run.new.voice.log.entries.list _ _ _ _ _ c.in_ok-ran.ran c.requires.ready.named c.requires.named
      c.in_ok-begin_run.ensures.ok.0 c.in_ok-begin_run.ensures.ok.1
      (rw (c.begin_run.ensures.stays.names, c.begin_run.ensures.stays.ops) at c.in_ok-ran.ensures.lines) c.in_ok-ran.ensures.ran (rw c.search.ensures.log at c.end_run.ensures.finished) c.in_err-end_run.ensures.err);
  names = c.end_run.ensures.stays.names ∙ ap (λ (l : Log). l.names) c.search.ensures.log ∙ c.begin_run.ensures.stays.names;
  ops = c.end_run.ensures.stays.ops ∙ ap (λ (l : Log). l.ops) c.search.ensures.log ∙ c.begin_run.ensures.stays.ops;
  over = c.end_run.ensures.stays.over ∙ c.search.ensures.over ∙ c.begin_run.ensures.stays.over;
  cause = cause_after _ _ _ _ (c.in_ok-ran.ensures.cause ∙ c.in_ok-begin_run.ensures.cause) c.in_err-end_run.ensures.cause;
}

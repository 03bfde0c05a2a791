use Rattle.std.proofs.Common.{◌≡◌, ◌∙◌, ap, inl, inr, refl}
use Rattle.std.proofs.lemmas.Result.{err_from_is_err_and}
use Rattle.apd_text.specs.Lines.{head_text}
use Rattle.apd_text.specs.declared.log.Log.{Log}
use Rattle.apd_talk.specs.Speech.{Spoken}
use Rattle.apd_query.proofs.query.begin_run.Goals as goal

pub returns-in_err-push-clause-err : goal.returns-in_err-push-clause-err
returns-in_err-push-clause-err g c =
    let p = err_from_is_err_and c.from_residual-in_err-push.result c.from_residual-in_err-push.ensures.1 in rw (p.1, c.push.ensures.stays) (inl (c.in_err-push.ensures.same, refl))

pub returns-in_err-push-clause-stays : goal.returns-in_err-push-clause-stays
returns-in_err-push-clause-stays g c = rw c.push.ensures.stays record { names = refl; ops = refl; over = refl }

pub returns-in_err-push-clause-cause : goal.returns-in_err-push-clause-cause
returns-in_err-push-clause-cause g c =
    let p = err_from_is_err_and c.from_residual-in_err-push.result c.from_residual-in_err-push.ensures.1 in rw (p.1, p.2) (ap (λ (s : Spoken). s.write_faults) c.push.ensures.stays)

pub returns-in_err-print-clause-err : goal.returns-in_err-print-clause-err
returns-in_err-print-clause-err g c =
    let p = err_from_is_err_and c.from_residual-in_err-print.result c.from_residual-in_err-print.ensures.1 in
    let held : c.push.new.self.held ≡ c.args.voice.now.held = ap (λ (s : Spoken). s.held) c.push.ensures.stays in
    let head : c.bytes.result.now ≡ head_text c.args.voice.now.log.ops c.args.voice.now.log.names c.args.query.now = c.bytes.ensures ∙ (rw c.log-log.ensures at c.in_ok-head.ensures) in
    rw (p.1, c.print.ensures.log) (inr (rw (c.in_ok-kept.ensures, c.in_ok-filter.ensures) at c.in_ok-push.ensures.pushed, rw (held, head) at c.in_err-print.ensures.err))

pub returns-in_err-print-clause-stays : goal.returns-in_err-print-clause-stays
returns-in_err-print-clause-stays g c = record {
  names = ap (λ (l : Log). l.names) c.print.ensures.log ∙ ap (λ (s : Spoken). s.log.names) c.push.ensures.stays;
  ops = ap (λ (l : Log). l.ops) c.print.ensures.log ∙ ap (λ (s : Spoken). s.log.ops) c.push.ensures.stays;
  over = c.print.ensures.over ∙ ap (λ (s : Spoken). s.over) c.push.ensures.stays;
}

pub returns-in_err-print-clause-cause : goal.returns-in_err-print-clause-cause
returns-in_err-print-clause-cause g c =
    let p = err_from_is_err_and c.from_residual-in_err-print.result c.from_residual-in_err-print.ensures.1 in
    let faults : c.push.new.self.write_faults ≡ c.args.voice.now.write_faults = ap (λ (s : Spoken). s.write_faults) c.push.ensures.stays in
    rw (p.1, p.2) (rw faults at c.in_err-print.ensures.cause)

pub returns-clause-ok : goal.returns-clause-ok
returns-clause-ok g c =
    let held : c.push.new.self.held ≡ c.args.voice.now.held = ap (λ (s : Spoken). s.held) c.push.ensures.stays in
    let head : c.bytes.result.now ≡ head_text c.args.voice.now.log.ops c.args.voice.now.log.names c.args.query.now = c.bytes.ensures ∙ (rw c.log-log.ensures at c.in_ok-head.ensures) in
    rw c.print.ensures.log (rw (c.in_ok-kept.ensures, c.in_ok-filter.ensures) at c.in_ok-push.ensures.pushed, rw (held, head) at c.in_ok-print.ensures.ok)

pub returns-clause-stays : goal.returns-clause-stays
returns-clause-stays g c = record {
  names = ap (λ (l : Log). l.names) c.print.ensures.log ∙ ap (λ (s : Spoken). s.log.names) c.push.ensures.stays;
  ops = ap (λ (l : Log). l.ops) c.print.ensures.log ∙ ap (λ (s : Spoken). s.log.ops) c.push.ensures.stays;
  over = c.print.ensures.over ∙ ap (λ (s : Spoken). s.over) c.push.ensures.stays;
}

pub returns-clause-cause : goal.returns-clause-cause
returns-clause-cause g c = c.in_ok-print.ensures.cause ∙ ap (λ (s : Spoken). s.write_faults) c.push.ensures.stays

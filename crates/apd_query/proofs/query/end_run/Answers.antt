use Rattle.std.proofs.Common.{◌≡◌, ◌∙◌, ap, refl}
use Rattle.std.proofs.lemmas.Result.{err_from_is_err_and}
use Rattle.apd_console.proofs.Printing.{front_self}
use Rattle.apd_text.specs.Lines.{end_text}
use Rattle.apd_text.specs.declared.log.Log.{Log}
use Rattle.apd_talk.specs.Speech.{Spoken}
use Rattle.apd_query.proofs.query.end_run.Goals as goal

pub returns-in_err-end-clause-err : goal.returns-in_err-end-clause-err
returns-in_err-end-clause-err g c = let p = err_from_is_err_and c.from_residual.result c.from_residual.ensures.1 in rw (p.1, c.finish.ensures.stays) (front_self _ _)

pub returns-in_err-end-clause-stays : goal.returns-in_err-end-clause-stays
returns-in_err-end-clause-stays g c = rw c.finish.ensures.stays record { names = refl; ops = refl; over = refl }

pub returns-in_err-end-clause-cause : goal.returns-in_err-end-clause-cause
returns-in_err-end-clause-cause g c = let p = err_from_is_err_and c.from_residual.result c.from_residual.ensures.1 in rw (p.1, p.2) (ap (λ (s : Spoken). s.write_faults) c.finish.ensures.stays)

pub returns-in_err-print-clause-finished : goal.returns-in_err-print-clause-finished
returns-in_err-print-clause-finished g c = rw c.print.ensures.log c.finish.ensures.finished

pub returns-in_err-print-clause-err : goal.returns-in_err-print-clause-err
returns-in_err-print-clause-err g c =
    let p = err_from_is_err_and c.from_residual-in_err-print.result c.from_residual-in_err-print.ensures.1 in
    let held : c.finish.new.self.held ≡ c.args.voice.now.held = ap (λ (s : Spoken). s.held) c.finish.ensures.stays in
    let end : c.bytes.result.now ≡ end_text c.args.ran = c.bytes.ensures ∙ c.in_ok-end.ensures in
    rw p.1 (rw (held, end) at c.in_err-print.ensures.err)

pub returns-in_err-print-clause-stays : goal.returns-in_err-print-clause-stays
returns-in_err-print-clause-stays g c = record {
  names = ap (λ (l : Log). l.names) c.print.ensures.log ∙ ap (λ (s : Spoken). s.log.names) c.finish.ensures.stays;
  ops = ap (λ (l : Log). l.ops) c.print.ensures.log ∙ ap (λ (s : Spoken). s.log.ops) c.finish.ensures.stays;
  over = c.print.ensures.over ∙ ap (λ (s : Spoken). s.over) c.finish.ensures.stays;
}

pub returns-in_err-print-clause-cause : goal.returns-in_err-print-clause-cause
returns-in_err-print-clause-cause g c =
    let p = err_from_is_err_and c.from_residual-in_err-print.result c.from_residual-in_err-print.ensures.1 in
    let faults : c.finish.new.self.write_faults ≡ c.args.voice.now.write_faults = ap (λ (s : Spoken). s.write_faults) c.finish.ensures.stays in
    rw (p.1, p.2) (rw faults at c.in_err-print.ensures.cause)

pub returns-clause-finished : goal.returns-clause-finished
returns-clause-finished g c = rw c.print.ensures.log c.finish.ensures.finished

pub returns-clause-ok : goal.returns-clause-ok
returns-clause-ok g c =
    let held : c.finish.new.self.held ≡ c.args.voice.now.held = ap (λ (s : Spoken). s.held) c.finish.ensures.stays in
    let end : c.bytes.result.now ≡ end_text c.args.ran = c.bytes.ensures ∙ c.in_ok-end.ensures in
    rw (held, end) at c.in_ok-print.ensures.ok

pub returns-clause-stays : goal.returns-clause-stays
returns-clause-stays g c = record {
  names = ap (λ (l : Log). l.names) c.print.ensures.log ∙ ap (λ (s : Spoken). s.log.names) c.finish.ensures.stays;
  ops = ap (λ (l : Log). l.ops) c.print.ensures.log ∙ ap (λ (s : Spoken). s.log.ops) c.finish.ensures.stays;
  over = c.print.ensures.over ∙ ap (λ (s : Spoken). s.over) c.finish.ensures.stays;
}

pub returns-clause-cause : goal.returns-clause-cause
returns-clause-cause g c = c.in_ok-print.ensures.cause ∙ ap (λ (s : Spoken). s.write_faults) c.finish.ensures.stays

use Rattle.std.proofs.Common.{ℕ, ap, refl, sym, length}
use Rattle.std.proofs.lemmas.Int.{to_z-of_z}
use Rattle.std.proofs.lemmas.Result.{err_from_is_err_and}
use Rattle.apd_commands.specs.declared.commands.Command.TheVariants as command
use Rattle.apd_session.specs.Diagnosing.{answered}
use Rattle.apd_session.specs.Steps.{command_step}
use Rattle.apd_session.proofs.Turning.{leads_broken}
use Rattle.apd_talk.proofs.Speaking.{Says-none}
use Rattle.apd_talk.specs.Moment.{Moment, moment, saying}
use Rattle.apd_talk.specs.declared.talk.Next.{Next}
use Rattle.apd_answers.proofs.Decided.{added-yes}
use Rattle.apd_answers.specs.declared.question.Question.TheVariants.{True}
use Rattle.apd_answers.specs.declared.question.Reply.TheVariants.{Yes}
use Rattle.apd_answers.proofs.Fitted.{fit_added}
use Rattle.apd_clauses.specs.Clauses.{tuples_of}
use Rattle.apd_debug.proofs.NamedReplies.{all_fit}
use Rattle.apd_debug.proofs.OwnRecords.{call-own}
use Rattle.apd_missing.specs.Missing.{missing}
use Rattle.apd_record.specs.Recorded.{is_none}
use Rattle.apd_recorded.proofs.Recording.{program_clauses}
use Rattle.apd_text.specs.declared.entry.Told.TheVariants.{Missing}
use Rattle.apd_session.specs.Steps.{by_missing}
use Rattle.apd_session.proofs.Lacking.{box_lacks}
use Rattle.apd_session.proofs.Symptoms.{missing_begins, missing_none, missing_refused, refused_leads, run_begins, run_kept, symptom_breaks, symptom_leads, told-replies}
use Rattle.apd_session.proofs.missing.seek.Goals as goal

pub returns-in_default : goal.returns-in_default
returns-in_default g c =
    refused_leads c.args.state.now (command.Missing c.args.box_no c.args.atom.now) _ (moment g.S.Source c.args.desk.now)
    (saying (moment g.S.Source c.args.desk.now) c.refuse.new.voice) refl refl refl refl (λ ops names. missing_none ops names c.args.state.now c.args.box_no c.args.atom.now c.in_default.is)
    c.requires.ready.sound c.refuse.result c.refuse.ensures.says c.refuse.ensures.goes c.requires.ready.ready

pub returns-in_err-found : goal.returns-in_err-found
returns-in_err-found g c =
    let p : Moment = moment g.S.Source c.args.desk.now in
    let e = err_from_is_err_and c.from_residual.result c.from_residual.ensures.1 in
    rw (e.1, e.2)
    (leads_broken (λ ops names. command_step ops names c.args.state.now (command.Missing c.args.box_no c.args.atom.now)) p p refl refl refl refl c.requires.ready.sound {T = Next} c.args.state.now _
    (Says-none {T = Next} (λ ops names. (command_step ops names c.args.state.now (command.Missing c.args.box_no c.args.atom.now)).utterances) p.spoken p.spoken refl refl refl refl refl refl))

pub returns-in-Err : goal.returns-in-Err
returns-in-Err g c =
    let found = sym (rw (to_z-of_z _ c.args.box_no c.ranges.box_no, c.in-Err.is) at c.in_ok-found.ensures.found) in
    refused_leads c.args.state.now (command.Missing c.args.box_no c.args.atom.now) _ (moment g.S.Source c.args.desk.now)
    (saying (moment g.S.Source c.args.desk.now) c.refuse-in-Err.new.voice) refl refl refl refl
    (λ ops names. missing_refused ops names c.args.state.now c.args.box_no c.args.atom.now c.in-Some.run' c.in-Err.refusal c.in-Some.is found)
    c.requires.ready.sound c.refuse-in-Err.result c.refuse-in-Err.ensures.says c.refuse-in-Err.ensures.goes c.requires.ready.ready

pub returns-in_err-keep_missing : goal.returns-in_err-keep_missing
returns-in_err-keep_missing g c =
    let found = sym (rw (to_z-of_z _ c.args.box_no c.ranges.box_no, c.in-Ok.is) at c.in_ok-found.ensures.found) in
    let e = err_from_is_err_and c.from_residual-in_err-keep_missing.result c.from_residual-in_err-keep_missing.ensures.1 in
    rw (e.1, e.2)
    (symptom_breaks by_missing c.args.state.now (command.Missing c.args.box_no c.args.atom.now) (Missing c.args.atom.now c.in-Ok.found) (record { box_no = c.in-Ok.found; goal = c.args.atom.now }) (λ ops names. missing_begins ops names c.args.state.now c.args.box_no c.args.atom.now c.in-Some.run' c.in-Ok.found c.in-Some.is found)
    (moment g.S.Source c.args.desk.now) c.keep_missing.new.voice c.requires.ready.sound _ _ c.in_err-keep_missing.ensures.says)

pub diagnose-answer-requires-clause-replies : goal.diagnose-answer-requires-clause-replies
diagnose-answer-requires-clause-replies g c =
    let found = sym (rw (to_z-of_z _ c.args.box_no c.ranges.box_no, c.in-Ok.is) at c.in_ok-found.ensures.found) in
    let n : ℕ = length c.args.desk.now.voice.now.log.names in
    let run = run_kept n c.args.state.now c.in-Some.run' c.in-Some.is c.requires.ready.ready.ready in
    let lacks = box_lacks c.in-Some.run'.history c.args.box_no c.in-Ok.found c.args.atom.now run.history.sound.kept found in
    let own = call-own (tuples_of c.args.state.now.program) (program_clauses c.args.state.now.program c.is_program.ensures) c.in-Some.run'.history run.history.sound c.in-Some.run'.query.tuple run.runnable.body.goals
    (run_begins n c.args.state.now c.in-Some.run' c.in-Some.is c.requires.ready.ready.ready) c.in-Ok.found lacks.row c.args.atom.now lacks.there lacks.instance (ap is_none lacks.of_program) in
    rw (c.in_ok-keep_missing.ensures.says.names, c.in_ok-keep_missing.ensures.replies) (told-replies n c.args.state.now.replies (Missing c.args.atom.now c.in-Ok.found) c.requires.named own c.requires.ready.ready.replies)

pub diagnose-answer-requires-clause-recorded : goal.diagnose-answer-requires-clause-recorded
diagnose-answer-requires-clause-recorded g c = (run_kept (length c.args.desk.now.voice.now.log.names) c.args.state.now c.in-Some.run' c.in-Some.is c.requires.ready.ready.ready).history.sound

pub diagnose-answer-requires-clause-full : goal.diagnose-answer-requires-clause-full
diagnose-answer-requires-clause-full g c = (run_kept (length c.args.desk.now.voice.now.log.names) c.args.state.now c.in-Some.run' c.in-Some.is c.requires.ready.ready.ready).history.full

pub diagnose-answer-requires-clause-known : goal.diagnose-answer-requires-clause-known
diagnose-answer-requires-clause-known g c =
    let found = sym (rw (to_z-of_z _ c.args.box_no c.ranges.box_no, c.in-Ok.is) at c.in_ok-found.ensures.found) in
    let run = run_kept (length c.args.desk.now.voice.now.log.names) c.args.state.now c.in-Some.run' c.in-Some.is c.requires.ready.ready.ready in
    rw c.in_ok-keep_missing.ensures.replies
    (record {
      missing = box_lacks c.in-Some.run'.history c.args.box_no c.in-Ok.found c.args.atom.now run.history.sound.kept found;
      says = added-yes c.args.state.now.replies c.args.atom.now;
      fit = fit_added c.args.state.now.replies (True c.args.atom.now) Yes (all_fit (length c.args.desk.now.voice.now.log.names) c.args.state.now.replies c.requires.ready.ready.replies) tt;
    })

pub diagnose-answer-requires-clause-program : goal.diagnose-answer-requires-clause-program
diagnose-answer-requires-clause-program g c = rw c.in_ok-keep_missing.ensures.says.names c.requires.ready.ready.ready.named

pub diagnose-answer-requires-clause-named : goal.diagnose-answer-requires-clause-named
diagnose-answer-requires-clause-named g c = rw c.in_ok-keep_missing.ensures.says.names c.requires.named

pub conclude-requires-clause-named : goal.conclude-requires-clause-named
conclude-requires-clause-named g c = c.diagnose-answer.ensures.diagnoses.named c.args.state.now

pub diagnose-answer-requires-clause-referee : goal.diagnose-answer-requires-clause-referee
diagnose-answer-requires-clause-referee g c = rw c.in_ok-keep_missing.ensures.says.names c.requires.ready.ready.referee

pub returns : goal.returns
returns g c =
    let found = sym (rw (to_z-of_z _ c.args.box_no c.ranges.box_no, c.in-Ok.is) at c.in_ok-found.ensures.found) in
    rw c.diagnose-answer.ensures.referee
    (symptom_leads by_missing c.args.state.now (command.Missing c.args.box_no c.args.atom.now) (Missing c.args.atom.now c.in-Ok.found) (record { box_no = c.in-Ok.found; goal = c.args.atom.now }) (λ ops names. missing_begins ops names c.args.state.now c.args.box_no c.args.atom.now c.in-Some.run' c.in-Ok.found c.in-Some.is found)
    (moment g.S.Source c.args.desk.now) c.keep_missing.new.voice c.requires.ready.sound (missing (tuples_of c.args.state.now.program) c.in-Some.run'.history) (rw c.in-Some.is refl)
    _ (moment g.S.Source c.diagnose-answer.new.desk) c.conclude.new.voice
    (answered c.diagnose-answer.new.replies c.diagnose-answer.new.asked) c.diagnose-answer.result c.conclude.result c.in_ok-keep_missing.ensures.says
    (rw c.in_ok-keep_missing.ensures.replies at c.diagnose-answer.ensures.diagnoses) c.conclude.ensures c.requires.ready.ready)

pub refuse-requires-in-Err : goal.refuse-requires-in-Err
refuse-requires-in-Err g c = rw c.in-Err.is at (c.in_ok-found.ensures.named (length c.args.desk.now.voice.now.log.names))

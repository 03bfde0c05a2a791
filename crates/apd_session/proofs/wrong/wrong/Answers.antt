use Rattle.std.proofs.Common.{refl, length, ℕ}
use Rattle.std.proofs.lemmas.Int.{to_z-of_z}
use Rattle.std.proofs.lemmas.Result.{err_from_is_err_and}
use Rattle.apd_commands.specs.declared.commands.Command.TheVariants as command
use Rattle.apd_session.specs.Diagnosing.{answered}
use Rattle.apd_talk.proofs.Speaking.{Says-ok}
use Rattle.apd_talk.specs.Moment.{moment, saying}
use Rattle.apd_talk.specs.Speech.{one}
use Rattle.apd_answers.proofs.Decided.{added-no}
use Rattle.apd_clauses.specs.Clauses.{tuples_of}
use Rattle.apd_debug.proofs.NamedTrees.{tree-named}
use Rattle.apd_debug.proofs.OwnRecords.{label-own, tree-own}
use Rattle.apd_divide.specs.Recorded.{tree}
use Rattle.apd_record.specs.Reading.{point_of}
use Rattle.apd_recorded.proofs.Recording.{program_clauses}
use Rattle.apd_term.specs.Term.{Term}
use Rattle.apd_text.specs.declared.entry.Entry.TheVariants.{Symptom}
use Rattle.apd_wrong.specs.Wrong.{wrong}
use Rattle.apd_session.specs.Steps.{by_wrong, wrong_of}
use Rattle.apd_session.proofs.Symptoms.{head_labelled, head_named, refused_leads, run_kept, run_named, symptom_breaks, symptom_leads, told-replies, wrong_begins, wrong_none, wrong_refused}
use Rattle.apd_session.proofs.wrong.wrong.Goals as goal

pub returns-in_default : goal.returns-in_default
returns-in_default g c =
    refused_leads c.args.state.now (command.Wrong c.args.box_no c.args.exit) _ (moment g.S.Source c.args.desk.now)
    (saying (moment g.S.Source c.args.desk.now) c.refuse.new.voice) refl refl refl refl (λ ops names. wrong_none ops names c.args.state.now c.args.box_no c.args.exit c.in_default.is)
    c.requires.sound c.refuse.result c.refuse.ensures.says c.refuse.ensures.goes c.requires.ready

pub returns-in-Err : goal.returns-in-Err
returns-in-Err g c =
    let exit = rw (to_z-of_z _ c.args.box_no c.ranges.box_no, to_z-of_z _ c.args.exit c.ranges.exit) at c.in-Err.ensures.exit in
    refused_leads c.args.state.now (command.Wrong c.args.box_no c.args.exit) _ (moment g.S.Source c.args.desk.now)
    (saying (moment g.S.Source c.args.desk.now) c.refuse-in-Err.new.voice) refl refl refl refl
    (λ ops names. wrong_refused ops names c.args.state.now c.args.box_no c.args.exit c.in-Some.run' c.in-Err.refusal c.in-Some.is exit)
    c.requires.sound c.refuse-in-Err.result c.refuse-in-Err.ensures.says c.refuse-in-Err.ensures.goes c.requires.ready

pub keep_wrong-requires-clause-named : goal.keep_wrong-requires-clause-named
keep_wrong-requires-clause-named g c =
    head_named (length c.args.desk.now.voice.now.log.names) c.args.state.now c.in-Some.run' c.in-Ok.exit.0 c.in-Some.is c.requires.ready.ready c.in-Ok.ensures.user

pub returns-in_err-label : goal.returns-in_err-label
returns-in_err-label g c =
    let atom : Term = (point_of c.in-Some.run'.history c.in-Ok.exit.0).tuple.head in
    let exit = rw (to_z-of_z _ c.args.box_no c.ranges.box_no, to_z-of_z _ c.args.exit c.ranges.exit) at c.in-Ok.ensures.exit in
    let e = err_from_is_err_and c.from_residual.result c.from_residual.ensures.1 in
    rw (e.1, e.2)
    (symptom_breaks by_wrong c.args.state.now (command.Wrong c.args.box_no c.args.exit) (wrong_of c.in-Some.run'.history c.in-Ok.exit.0) (tree c.in-Some.run'.history c.in-Ok.exit.0 atom) (λ ops names. wrong_begins ops names c.args.state.now c.args.box_no c.args.exit c.in-Some.run' c.in-Ok.exit.0 c.in-Some.is exit)
    (moment g.S.Source c.args.desk.now) c.keep_wrong.new.voice c.requires.sound _ _ c.in_err-label.ensures.says)

pub diagnose-answer-requires-clause-labelled : goal.diagnose-answer-requires-clause-labelled
diagnose-answer-requires-clause-labelled g c =
    rw c.in_ok-label.ensures.head (head_labelled c.in-Some.run'.history c.in-Ok.exit.0 c.in-Ok.ensures.user)

pub diagnose-answer-requires-clause-symptom : goal.diagnose-answer-requires-clause-symptom
diagnose-answer-requires-clause-symptom g c =
    let atom : Term = (point_of c.in-Some.run'.history c.in-Ok.exit.0).tuple.head in
    rw (c.in_ok-label.ensures.head, c.in_ok-label.ensures.replies) (added-no c.args.state.now.replies atom)

pub diagnose-answer-requires-clause-replies : goal.diagnose-answer-requires-clause-replies
diagnose-answer-requires-clause-replies g c =
    let R = c.in-Some.run'.history in
    let e : ℕ = c.in-Ok.exit.0 in
    let n : ℕ = length c.args.desk.now.voice.now.log.names in
    let named = head_named n c.args.state.now c.in-Some.run' e c.in-Some.is c.requires.ready.ready c.in-Ok.ensures.user in
    let own = label-own (tuples_of c.args.state.now.program) (program_clauses c.args.state.now.program c.is_program.ensures) R (run_kept n c.args.state.now c.in-Some.run' c.in-Some.is c.requires.ready.ready).history.sound e (point_of R e).tuple.head (head_labelled R e c.in-Ok.ensures.user) in
    rw (c.in_ok-label.ensures.says.names, c.in_ok-label.ensures.replies) (told-replies n c.args.state.now.replies (wrong_of R e) named own c.requires.ready.replies)

pub diagnose-answer-requires-clause-own : goal.diagnose-answer-requires-clause-own
diagnose-answer-requires-clause-own g c =
    let R = c.in-Some.run'.history in
    let e : ℕ = c.in-Ok.exit.0 in
    let n : ℕ = length c.args.desk.now.voice.now.log.names in
    rw c.in_ok-label.ensures.head
    (tree-own (tuples_of c.args.state.now.program) (program_clauses c.args.state.now.program c.is_program.ensures) R (run_kept n c.args.state.now c.in-Some.run' c.in-Some.is c.requires.ready.ready).history.sound e (point_of R e).tuple.head (head_labelled R e c.in-Ok.ensures.user))

pub diagnose-answer-requires-clause-named : goal.diagnose-answer-requires-clause-named
diagnose-answer-requires-clause-named g c =
    let atom : Term = (point_of c.in-Some.run'.history c.in-Ok.exit.0).tuple.head in
    let n : ℕ = length c.args.desk.now.voice.now.log.names in
    let named = head_named n c.args.state.now c.in-Some.run' c.in-Ok.exit.0 c.in-Some.is c.requires.ready.ready c.in-Ok.ensures.user in
    rw (c.in_ok-label.ensures.head, c.in_ok-label.ensures.says.names) (tree-named n c.in-Some.run'.history c.in-Ok.exit.0 atom (run_named n c.args.state.now c.in-Some.run' c.in-Some.is c.requires.ready.ready) named)

pub conclude-requires-clause-named : goal.conclude-requires-clause-named
conclude-requires-clause-named g c = c.diagnose-answer.ensures.diagnoses.named c.args.state.now

pub diagnose-answer-requires-clause-referee : goal.diagnose-answer-requires-clause-referee
diagnose-answer-requires-clause-referee g c = rw c.in_ok-label.ensures.says.names c.requires.ready.referee

pub returns : goal.returns
returns g c =
    let atom : Term = (point_of c.in-Some.run'.history c.in-Ok.exit.0).tuple.head in
    let exit = rw (to_z-of_z _ c.args.box_no c.ranges.box_no, to_z-of_z _ c.args.exit c.ranges.exit) at c.in-Ok.ensures.exit in
    rw c.diagnose-answer.ensures.referee
    (symptom_leads by_wrong c.args.state.now (command.Wrong c.args.box_no c.args.exit) (wrong_of c.in-Some.run'.history c.in-Ok.exit.0) (tree c.in-Some.run'.history c.in-Ok.exit.0 atom) (λ ops names. wrong_begins ops names c.args.state.now c.args.box_no c.args.exit c.in-Some.run' c.in-Ok.exit.0 c.in-Some.is exit)
    (moment g.S.Source c.args.desk.now) c.keep_wrong.new.voice c.requires.sound (wrong c.args.state.now.strategy) refl
    _ (moment g.S.Source c.diagnose-answer.new.desk) c.conclude.new.voice
    (answered c.diagnose-answer.new.replies c.diagnose-answer.new.asked) c.diagnose-answer.result c.conclude.result
    (Says-ok (one (Symptom (wrong_of c.in-Some.run'.history c.in-Ok.exit.0))) _ _ c.in_ok-label.label (tt {0}) c.in_ok-label.ensures.says)
    (rw (c.in_ok-label.ensures.head, c.in_ok-label.ensures.replies) at c.diagnose-answer.ensures.diagnoses) c.conclude.ensures c.requires.ready)

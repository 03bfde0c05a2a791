use Rattle.std.proofs.Common.{◌∙◌, ℕ, ap, refl, sym, length}
use Rattle.std.proofs.lemmas.Result.{err_from_is_err_and}
use Rattle.apd_commands.specs.declared.commands.Command.TheVariants as command
use Rattle.apd_session.specs.Diagnosing.{answered}
use Rattle.apd_session.specs.Steps.{command_step}
use Rattle.apd_session.proofs.Turning.{leads_broken}
use Rattle.apd_talk.proofs.Speaking.{Says-none}
use Rattle.apd_talk.specs.Moment.{Moment, moment, saying}
use Rattle.apd_talk.specs.declared.talk.Next.{Next}
use Rattle.apd_clauses.specs.Clauses.{tuples_of}
use Rattle.apd_debug.proofs.OwnRecords.{own_chain, start-own}
use Rattle.apd_loop.specs.Loop.{loop, loop_start}
use Rattle.apd_recorded.proofs.Recording.{program_clauses}
use Rattle.apd_text.specs.declared.entry.Told.TheVariants.{NoEnd}
use Rattle.apd_session.specs.Steps.{by_loop}
use Rattle.apd_session.proofs.Lacking.{chain_stopped}
use Rattle.apd_session.proofs.Symptoms.{loop_begins, loop_none, loop_refused, loop_this, refused_leads, run_begins, run_calls, run_kept, run_named, run_owned, symptom_breaks, symptom_leads}
use Rattle.apd_session.proofs.looping.no_end.Goals as goal

pub returns-in_default : goal.returns-in_default
returns-in_default g c =
    refused_leads c.args.state.now command.Loop _ (moment g.S.Source c.args.desk.now)
    (saying (moment g.S.Source c.args.desk.now) c.refuse.new.voice) refl refl refl refl (λ ops names. loop_none ops names c.args.state.now c.in_default.is)
    c.requires.sound c.refuse.result c.refuse.ensures.says c.refuse.ensures.goes c.requires.ready

pub returns-in_err-calls : goal.returns-in_err-calls
returns-in_err-calls g c =
    let p : Moment = moment g.S.Source c.args.desk.now in
    let e = err_from_is_err_and c.from_residual.result c.from_residual.ensures.1 in
    rw (e.1, e.2)
    (leads_broken (λ ops names. command_step ops names c.args.state.now command.Loop) p p refl refl refl refl c.requires.sound {T = Next} c.args.state.now _
    (Says-none {T = Next} (λ ops names. (command_step ops names c.args.state.now command.Loop).utterances) p.spoken p.spoken refl refl refl refl refl refl))

pub returns-in-Err : goal.returns-in-Err
returns-in-Err g c =
    let calls = sym (rw c.in-Err.is at c.in_ok-calls.ensures.chain) in
    refused_leads c.args.state.now command.Loop _ (moment g.S.Source c.args.desk.now)
    (saying (moment g.S.Source c.args.desk.now) c.refuse-in-Err.new.voice) refl refl refl refl
    (λ ops names. loop_refused ops names c.args.state.now c.in-Some.run' c.in-Err.refusal c.in-Some.is calls)
    c.requires.sound c.refuse-in-Err.result c.refuse-in-Err.ensures.says c.refuse-in-Err.ensures.goes c.requires.ready

pub returns-in_err-keep_symptom : goal.returns-in_err-keep_symptom
returns-in_err-keep_symptom g c =
    let calls = sym (rw c.in-Ok.is at c.in_ok-calls.ensures.chain) in
    let e = err_from_is_err_and c.from_residual-in_err-keep_symptom.result c.from_residual-in_err-keep_symptom.ensures.1 in
    rw (e.1, e.2)
    (symptom_breaks by_loop c.args.state.now command.Loop (NoEnd (length c.in-Ok.calls)) (loop_start c.in-Some.run'.history c.in-Ok.calls) (λ ops names. loop_begins ops names c.args.state.now c.in-Some.run' c.in-Ok.calls c.in-Some.is calls)
    (moment g.S.Source c.args.desk.now) c.keep_symptom.new.voice c.requires.sound _ _ (rw c.call_count-count.ensures at c.in_err-keep_symptom.ensures.says))

pub diagnose-answer-requires-clause-replies : goal.diagnose-answer-requires-clause-replies
diagnose-answer-requires-clause-replies g c =
    rw (c.in_ok-keep_symptom.ensures.says.names, c.in_ok-keep_symptom.ensures.replies) c.requires.ready.replies

pub diagnose-answer-requires-clause-chain : goal.diagnose-answer-requires-clause-chain
diagnose-answer-requires-clause-chain g c =
    let calls = sym (rw c.in-Ok.is at c.in_ok-calls.ensures.chain) in
    let chained = chain_stopped c.in-Some.run'.history c.in-Some.run'.end c.in-Ok.calls calls in
    rw chained.0 (record { several = chained.1; owned = run_owned (length c.args.desk.now.voice.now.log.names) c.args.state.now c.in-Some.run' c.in-Some.is c.requires.ready.ready c.is_program.ensures })

pub diagnose-answer-requires-clause-own : goal.diagnose-answer-requires-clause-own
diagnose-answer-requires-clause-own g c =
    let calls = sym (rw c.in-Ok.is at c.in_ok-calls.ensures.chain) in
    let n : ℕ = length c.args.desk.now.voice.now.log.names in
    let chained = chain_stopped c.in-Some.run'.history c.in-Some.run'.end c.in-Ok.calls calls in
    let run = run_kept n c.args.state.now c.in-Some.run' c.in-Some.is c.requires.ready.ready in
    rw chained.0
    (own_chain (tuples_of c.args.state.now.program) (program_clauses c.args.state.now.program c.is_program.ensures) c.in-Some.run'.history run.history.sound c.in-Some.run'.query.tuple run.runnable.body.goals
    (run_begins n c.args.state.now c.in-Some.run' c.in-Some.is c.requires.ready.ready)
    (record { several = chained.1; owned = run_owned n c.args.state.now c.in-Some.run' c.in-Some.is c.requires.ready.ready c.is_program.ensures }))

pub diagnose-answer-requires-clause-start : goal.diagnose-answer-requires-clause-start
diagnose-answer-requires-clause-start g c =
    let run = run_kept (length c.args.desk.now.voice.now.log.names) c.args.state.now c.in-Some.run' c.in-Some.is c.requires.ready.ready in
    start-own (tuples_of c.args.state.now.program) (program_clauses c.args.state.now.program c.is_program.ensures) c.in-Some.run'.history run.history.sound c.in-Ok.calls

pub diagnose-answer-requires-clause-named : goal.diagnose-answer-requires-clause-named
diagnose-answer-requires-clause-named g c = rw c.in_ok-keep_symptom.ensures.says.names (run_named (length c.args.desk.now.voice.now.log.names) c.args.state.now c.in-Some.run' c.in-Some.is c.requires.ready.ready)

pub call_count-count-requires : goal.call_count-count-requires
call_count-count-requires g c =
    let calls = sym (rw c.in-Ok.is at c.in_ok-calls.ensures.chain) in
    let chained = chain_stopped c.in-Some.run'.history c.in-Some.run'.end c.in-Ok.calls calls in
    chained.0

pub conclude_loop-requires-clause-named : goal.conclude_loop-requires-clause-named
conclude_loop-requires-clause-named g c =
    let calls = sym (rw c.in-Ok.is at c.in_ok-calls.ensures.chain) in
    let chained = chain_stopped c.in-Some.run'.history c.in-Some.run'.end c.in-Ok.calls calls in
    let count = ap length (run_calls c.args.state.now c.in-Some.run' c.in-Ok.calls c.in-Some.is chained.0) ∙ sym c.call_count-count.ensures in
    rw count at (c.diagnose-answer.ensures.diagnoses.named c.args.state.now)

pub diagnose-answer-requires-clause-referee : goal.diagnose-answer-requires-clause-referee
diagnose-answer-requires-clause-referee g c = rw c.in_ok-keep_symptom.ensures.says.names c.requires.ready.referee

pub returns : goal.returns
returns g c =
    let calls = sym (rw c.in-Ok.is at c.in_ok-calls.ensures.chain) in
    let chained = chain_stopped c.in-Some.run'.history c.in-Some.run'.end c.in-Ok.calls calls in
    let same = run_calls c.args.state.now c.in-Some.run' c.in-Ok.calls c.in-Some.is chained.0 in
    let count = ap length same ∙ sym c.call_count-count.ensures in
    rw c.diagnose-answer.ensures.referee
    (symptom_leads by_loop c.args.state.now command.Loop (NoEnd (length c.in-Ok.calls)) (loop_start c.in-Some.run'.history c.in-Ok.calls) (λ ops names. loop_begins ops names c.args.state.now c.in-Some.run' c.in-Ok.calls c.in-Some.is calls)
    (moment g.S.Source c.args.desk.now) c.keep_symptom.new.voice c.requires.sound
    (loop c.in-Some.run'.history c.in-Ok.calls c.args.state.now.strategy) (loop_this c.args.state.now c.in-Some.run' c.in-Ok.calls c.in-Some.is chained.0)
    _ (moment g.S.Source c.diagnose-answer.new.desk) c.conclude_loop.new.voice
    (answered c.diagnose-answer.new.replies c.diagnose-answer.new.asked) c.diagnose-answer.result c.conclude_loop.result (rw c.call_count-count.ensures at c.in_ok-keep_symptom.ensures.says)
    (rw c.in_ok-keep_symptom.ensures.replies at c.diagnose-answer.ensures.diagnoses) (rw (← count) at c.conclude_loop.ensures) c.requires.ready)

pub refuse-requires-in-Err : goal.refuse-requires-in-Err
refuse-requires-in-Err g c = rw c.in-Err.is at (c.in_ok-calls.ensures.named (length c.args.desk.now.voice.now.log.names))

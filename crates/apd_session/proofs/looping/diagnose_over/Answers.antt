use Rattle.apd_answers.specs.Going.{at}
use Rattle.apd_debug.proofs.Asking.{keeps_dialogue}
use Rattle.std.proofs.Common.{length}
use Rattle.apd_debug.specs.NamedStates.{IsKnownLoop, loop_entry}
use Rattle.apd_debug.proofs.KnownLoops.{loop-keeps, start-named}
use Rattle.apd_loop.specs.Loop.{loop, loop_start}
use Rattle.apd_record.specs.Recorded.{chain}
use Rattle.apd_symptoms.specs.Symptoms.{line_found}
use Rattle.apd_session.specs.Steps.{by_loop, history_of}
use Rattle.apd_session.proofs.Dialogues.{diagnoses, hears_loop}
use Rattle.apd_session.proofs.looping.diagnose_over.Goals as goal

pub returns-clause-over : goal.returns-clause-over
returns-clause-over g c =
    let kept = keeps_dialogue g.S.Source g.K.Sink g.R.Replier (loop c.args.history.now c.args.calls.now c.args.strategy) (at c.args.replies.now (loop_start c.args.history.now c.args.calls.now) c.args.dialogue.now) c.diagnose_loop-answer.new.answers c.diagnose_loop-answer.new.oracle c.diagnose_loop-answer.result c.diagnose_loop-answer.ensures.reached in
    record { console = kept.same.console; input = kept.same.input; log = kept.same.log; out = kept.same.out; replier = kept.same.replier }

pub returns-clause-replier : goal.returns-clause-replier
returns-clause-replier g c = (keeps_dialogue g.S.Source g.K.Sink g.R.Replier (loop c.args.history.now c.args.calls.now c.args.strategy) (at c.args.replies.now (loop_start c.args.history.now c.args.calls.now) c.args.dialogue.now) c.diagnose_loop-answer.new.answers c.diagnose_loop-answer.new.oracle c.diagnose_loop-answer.result c.diagnose_loop-answer.ensures.reached).replier

pub returns-clause-diagnoses : goal.returns-clause-diagnoses
returns-clause-diagnoses g c =
    diagnoses by_loop hears_loop (loop c.args.history.now c.args.calls.now c.args.strategy) (IsKnownLoop c.args.history.now c.args.calls.now) (λ s. loop-keeps c.args.history.now c.args.calls.now c.args.strategy (line_found s.program) (length (chain (history_of s.last)))) g.S.Source g.K.Sink g.R.Replier (loop_start c.args.history.now c.args.calls.now) c.args.replies.now c.diagnose_loop-answer.new.answers c.args.dialogue.now c.diagnose_loop-answer.new.oracle
    c.diagnose_loop-answer.result c.diagnose_loop-answer.ensures.reached c.has_few_entries.ensures (record { standard = c.args.dialogue.now.standard; history = c.requires.named; calls = c.requires.own; state = start-named (length c.args.dialogue.now.log.now.names) c.args.history.now c.args.calls.now; going = c.requires.start }) c.requires.replies c.requires.sound (loop_entry (λ f. 0) 0) (loop-keeps c.args.history.now c.args.calls.now c.args.strategy (λ f. 0) 0)

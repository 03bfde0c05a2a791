use Rattle.apd_answers.specs.Going.{at}
use Rattle.apd_debug.proofs.Asking.{keeps_dialogue}
use Rattle.apd_clauses.specs.Clauses.{tuples_of}
use Rattle.apd_debug.specs.NamedStates.{IsKnownGoal}
use Rattle.apd_debug.proofs.KnownGoals.{missing-keeps}
use Rattle.apd_missing.specs.Missing.{missing}
use Rattle.apd_recorded.proofs.Recording.{program_clauses}
use Rattle.apd_symptoms.specs.Symptoms.{line_found}
use Rattle.apd_text.specs.declared.entry.Entry.TheVariants.{Found}
use Rattle.apd_session.specs.Steps.{by_missing}
use Rattle.apd_session.proofs.Dialogues.{diagnoses, hears_missing}
use Rattle.apd_session.proofs.missing.diagnose_over.Goals as goal

pub returns-clause-over : goal.returns-clause-over
returns-clause-over g c =
    let kept = keeps_dialogue g.S.Source g.K.Sink g.R.Replier (missing (tuples_of c.args.program.now) c.args.history.now) (at c.args.replies.now (record { box_no = c.args.symptom.now.box_no; goal = c.args.symptom.now.atom.now }) c.args.dialogue.now) c.diagnose_missing-answer.new.answers c.diagnose_missing-answer.new.oracle c.diagnose_missing-answer.result c.diagnose_missing-answer.ensures.reached in
    record { console = kept.same.console; input = kept.same.input; log = kept.same.log; out = kept.same.out; replier = kept.same.replier }

pub returns-clause-replier : goal.returns-clause-replier
returns-clause-replier g c = (keeps_dialogue g.S.Source g.K.Sink g.R.Replier (missing (tuples_of c.args.program.now) c.args.history.now) (at c.args.replies.now (record { box_no = c.args.symptom.now.box_no; goal = c.args.symptom.now.atom.now }) c.args.dialogue.now) c.diagnose_missing-answer.new.answers c.diagnose_missing-answer.new.oracle c.diagnose_missing-answer.result c.diagnose_missing-answer.ensures.reached).replier

pub returns-clause-diagnoses : goal.returns-clause-diagnoses
returns-clause-diagnoses g c =
    diagnoses by_missing hears_missing (missing (tuples_of c.args.program.now) c.args.history.now) (IsKnownGoal (tuples_of c.args.program.now)) (λ s. missing-keeps (tuples_of c.args.program.now) c.args.history.now (line_found s.program)) g.S.Source g.K.Sink g.R.Replier (record { box_no = c.args.symptom.now.box_no; goal = c.args.symptom.now.atom.now }) c.args.replies.now c.diagnose_missing-answer.new.answers c.args.dialogue.now c.diagnose_missing-answer.new.oracle
    c.diagnose_missing-answer.result c.diagnose_missing-answer.ensures.reached c.has_few_entries.ensures (record {
      standard = c.args.dialogue.now.standard;
      program = c.requires.program;
      clauses = program_clauses c.args.program.now c.is_program.ensures;
      replies = c.requires.replies;
      goal = c.requires.named;
      has_no_variable = c.requires.known.missing.has_no_variable;
    }) c.requires.replies c.requires.sound (λ f. Found f 0) (missing-keeps (tuples_of c.args.program.now) c.args.history.now (λ f. 0))

pub diagnose_missing-answer-requires-clause-symptom : goal.diagnose_missing-answer-requires-clause-symptom
diagnose_missing-answer-requires-clause-symptom g c = c.requires.known.missing

pub diagnose_missing-answer-requires-clause-says : goal.diagnose_missing-answer-requires-clause-says
diagnose_missing-answer-requires-clause-says g c = c.requires.known.says

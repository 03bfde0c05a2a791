use Rattle.apd_answers.specs.Going.{at}
use Rattle.apd_debug.proofs.Asking.{keeps_dialogue}
use Rattle.apd_debug.specs.NamedTrees.{IsKnownTree}
use Rattle.apd_debug.proofs.KnownTrees.{wrong-keeps}
use Rattle.apd_divide.specs.Recorded.{tree}
use Rattle.apd_symptoms.specs.Symptoms.{line_found}
use Rattle.apd_text.specs.declared.entry.Entry.TheVariants.{Found}
use Rattle.apd_wrong.specs.Wrong.{wrong}
use Rattle.apd_session.specs.Steps.{by_wrong}
use Rattle.apd_session.proofs.Dialogues.{diagnoses, hears_wrong}
use Rattle.apd_session.proofs.wrong.diagnose_over.Goals as goal

pub returns-clause-over : goal.returns-clause-over
returns-clause-over g c =
    let kept = keeps_dialogue g.S.Source g.K.Sink g.R.Replier (wrong c.args.strategy) (at c.args.replies.now (tree c.args.history.now c.args.symptom.now.exit.0 c.args.symptom.now.label) c.args.dialogue.now) c.diagnose_wrong-answer.new.answers c.diagnose_wrong-answer.new.oracle c.diagnose_wrong-answer.result c.diagnose_wrong-answer.ensures.reached in
    record { console = kept.same.console; input = kept.same.input; log = kept.same.log; out = kept.same.out; replier = kept.same.replier }

pub returns-clause-replier : goal.returns-clause-replier
returns-clause-replier g c = (keeps_dialogue g.S.Source g.K.Sink g.R.Replier (wrong c.args.strategy) (at c.args.replies.now (tree c.args.history.now c.args.symptom.now.exit.0 c.args.symptom.now.label) c.args.dialogue.now) c.diagnose_wrong-answer.new.answers c.diagnose_wrong-answer.new.oracle c.diagnose_wrong-answer.result c.diagnose_wrong-answer.ensures.reached).replier

pub returns-clause-diagnoses : goal.returns-clause-diagnoses
returns-clause-diagnoses g c =
    diagnoses by_wrong hears_wrong (wrong c.args.strategy) IsKnownTree (λ s. wrong-keeps c.args.strategy (line_found s.program)) g.S.Source g.K.Sink g.R.Replier (tree c.args.history.now c.args.symptom.now.exit.0 c.args.symptom.now.label) c.args.replies.now c.diagnose_wrong-answer.new.answers c.args.dialogue.now c.diagnose_wrong-answer.new.oracle
    c.diagnose_wrong-answer.result c.diagnose_wrong-answer.ensures.reached c.has_few_entries.ensures (record { standard = c.args.dialogue.now.standard; named = c.requires.named; own = c.requires.own }) c.requires.replies c.requires.sound (λ f. Found f 0) (wrong-keeps c.args.strategy (λ f. 0))

use Rattle.std.proofs.Common.{◌∙◌, ap, refl, sym}
use Rattle.apd_session.specs.Steps.{by_loop}
use Rattle.apd_talk.specs.Moment.{moment}
use Rattle.apd_talk.specs.Speech.{Spoken, bare}
use Rattle.apd_session.proofs.Dialogues.{at_a_desk}
use Rattle.apd_session.proofs.looping.diagnose.Goals as goal

pub returns-clause-referee : goal.returns-clause-referee
returns-clause-referee g c =
    c.referee-1.given.1 (sym (c.diagnose_over-answer.ensures.over.replier ∙ c.new-dialogue.ensures.replier.0)) ∙ c.diagnose_over-answer.ensures.replier ∙ c.new-dialogue.ensures.replier.1

pub returns-clause-diagnoses : goal.returns-clause-diagnoses
returns-clause-diagnoses g c =
    let made = c.new-dialogue.ensures in
    at_a_desk by_loop _ _ _ (moment g.S.Source c.args.desk.now) _ c.diagnose_over-answer.result (refl, ap (λ (s : Spoken). s.over) c.voice.view_is) _ _ _ _ _ _ _ _
    (rw (made.replier.1, made.marked ∙ c.is_marked-marked.ensures) refl) (rw made.asked refl) made.console.1 (rw made.input.1 refl) (rw made.input.1 refl) (rw (made.log.1, made.out.1) (ap bare c.voice.view_is))
    c.diagnose_over-answer.ensures.diagnoses

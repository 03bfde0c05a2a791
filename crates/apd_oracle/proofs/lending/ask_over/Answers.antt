use Rattle.std.proofs.Common.{ℕ, ap, sym, subst, ◌∙◌}
use Rattle.apd_answers.specs.Oracle.{asking}
use Rattle.apd_oracle.specs.Dialogue.{Calls, HasFaults}
use Rattle.apd_talk.specs.Moment.{among}
use Rattle.apd_talk.specs.Speech.{Spoken, bare, said}
use Rattle.apd_oracle.proofs.lending.ask_over.Goals as goal

pub returns-clause-calls : goal.returns-clause-calls
returns-clause-calls g c =
    let names = sym (ap (λ (s : Spoken). s.over) c.voice.view_is ∙ c.ask_with-answer.ensures.over) in
    rw (c.log-1.given.1 (ap (λ (n : ℕ × ℕ). n.0) names), c.out-1.given.1 (ap (λ (n : ℕ × ℕ). n.1) names))
    (subst (λ (s : Spoken). Calls (g.R.Replier.replies c.args.replier.now) (asking c.args.asked.now c.ask_with-answer.result) c.args.count c.args.by_reference.now
    (among g.S.Source c.args.console.now c.args.input.now (said g.K.Sink c.args.log.now c.args.out.now)) (among g.S.Source c.ask_with-answer.new.console c.ask_with-answer.new.input (bare s))) (sym c.voice.view_is) c.ask_with-answer.ensures.calls)

pub returns-clause-faults : goal.returns-clause-faults
returns-clause-faults g c =
    let names = sym (ap (λ (s : Spoken). s.over) c.voice.view_is ∙ c.ask_with-answer.ensures.over) in
    rw (c.log-1.given.1 (ap (λ (n : ℕ × ℕ). n.0) names), c.out-1.given.1 (ap (λ (n : ℕ × ℕ). n.1) names))
    (subst (λ (s : Spoken). HasFaults (among g.S.Source c.args.console.now c.args.input.now (said g.K.Sink c.args.log.now c.args.out.now)) (among g.S.Source c.ask_with-answer.new.console c.ask_with-answer.new.input (bare s)) c.ask_with-answer.result)
    (sym c.voice.view_is) c.ask_with-answer.ensures.faults)

use Rattle.std.proofs.Common.{refl}
use Rattle.apd_talk.specs.Moment.{among}
use Rattle.apd_talk.specs.Speech.{said}
use Rattle.apd_oracle.proofs.Waiting.{told_only, told_reads, told_so}
use Rattle.apd_oracle.proofs.dialogue.DialogueOracle.told.Goals as goal

pub returns-clause-step : goal.returns-clause-step
returns-clause-step g c = (
  refl,
  refl,
  refl,
  refl,
  refl,
  refl,
  refl,
  refl,
  told_so (g.R.Replier.replies c.args.self.now.replier.now) c.args.self.now.by_reference c.args.reply.now c.args.left c.args.self.now.asked (among g.S.Source c.args.self.now.console.now c.args.self.now.input.now (said g.K.Sink c.args.self.now.log.now c.args.self.now.out.now))
      (said g.K.Sink c.tell_over-answer.new.log c.tell_over-answer.new.out) c.tell_over-answer.result c.keeps_its_limits.ensures c.tell_over-answer.ensures,
  refl,
)

pub returns-clause-only : goal.returns-clause-only
returns-clause-only g c = λ e. told_only c.tell_over-answer.ensures.said c.tell_over-answer.result e c.tell_over-answer.ensures.answers

pub returns-clause-cause : goal.returns-clause-cause
returns-clause-cause g c = record {
  end_is = c.end_after-self.ensures;
  read = told_reads (g.S.Source.faults c.args.self.now.input.now) c.tell_over-answer.ensures.said c.tell_over-answer.result c.tell_over-answer.ensures.answers;
  write = c.tell_over-answer.ensures.faults;
}

use Rattle.std.proofs.Common.{refl}
use Rattle.apd_oracle.proofs.dialogue.DialogueOracle.ask.Goals as goal

pub returns-clause-step : goal.returns-clause-step
returns-clause-step g c = (
  refl,
  refl,
  refl,
  refl,
  refl,
  c.ask_over-answer.ensures.same,
  c.ask_over-answer.ensures.by,
  c.saturating_add-self.ensures,
  c.ask_over-answer.ensures.calls,
  refl,
)

pub returns-clause-cause : goal.returns-clause-cause
returns-clause-cause g c = record { end_is = c.end_after-self.ensures; read = c.ask_over-answer.ensures.faults.read; write = c.ask_over-answer.ensures.faults.write }

use Rattle.std.proofs.Common.{◌≡◌, ◌+◌, drop}
use Rattle.apd_symptoms.specs.Unanswered.{answer_from}
use Rattle.apd_symptoms.proofs.Answered.{places}
use Rattle.apd_symptoms.proofs.unanswered.first_answer.Given as goal

abbrev pub invariant-exits : goal.invariant-exits
invariant-exits l = answer_from l.history l.atom 1 (places l.exit-items) ≡ answer_from l.history l.atom (l.place + 1) (places (drop l.place l.exit-items))

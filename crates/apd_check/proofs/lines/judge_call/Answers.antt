use Rattle.std.proofs.Common.{ap, ◌∙◌}
use Rattle.apd_check.specs.Checked.{reason_for}
use Rattle.apd_check.proofs.Taking.{why-found, why-not}
use Rattle.apd_check.proofs.lines.judge_call.Goals as goal

pub returns-then-found-clause-why : goal.returns-then-found-clause-why
returns-then-found-clause-why c = λ n grew reader. why-found _ _ c.if-found.true

pub returns-clause-why : goal.returns-clause-why
returns-clause-why c = λ n grew reader. why-not _ _ _ c.if-found.false (c.reason_for-reason.ensures ∙ ap reason_for (c.in_ok-claim.ensures.claim n grew reader))

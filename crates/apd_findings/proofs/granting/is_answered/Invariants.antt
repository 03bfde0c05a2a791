use Rattle.std.proofs.Common.{ℕ, ◌+◌, ◌<◌}
use Rattle.apd_findings.specs.Granting.{IsAnsweredIn}
use Rattle.apd_findings.proofs.granting.is_answered.Given as goal

abbrev pub invariant-boxes : goal.invariant-boxes
invariant-boxes l = (j : ℕ) → j < l.i → ¬ IsAnsweredIn l.record l.atom (j + 1)

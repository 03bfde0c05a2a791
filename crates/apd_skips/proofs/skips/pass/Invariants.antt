use Rattle.apd_skips.proofs.Skipping.{IsPassed}
use Rattle.apd_skips.proofs.skips.pass.Given as goal

abbrev pub invariant-terms : goal.invariant-terms
invariant-terms l = IsPassed l.symbols l.from l._k l.end

use Rattle.std.proofs.Common.{ℕ, drop}
use Rattle.apd_findings.specs.Reaching.{IsRowOf}
use Rattle.apd_findings.proofs.reaching.catch_up.Given as goal

abbrev pub invariant-edges : goal.invariant-edges
invariant-edges l = (first : ℕ) → IsRowOf l.lists l.fresh first l.fn.whole → IsRowOf l.lists (drop l.i l.fresh) first l.whole

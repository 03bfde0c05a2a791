use Rattle.std.proofs.Common.{◌↔◌, drop}
use Rattle.apd_findings.specs.Reaching.{HasSome}
use Rattle.apd_findings.proofs.reaching.has_some.Given as goal

abbrev pub invariant-numbers : goal.invariant-numbers
invariant-numbers l = HasSome l.row l.numbers ↔ HasSome l.row (drop l.number-index l.numbers)

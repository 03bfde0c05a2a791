use Rattle.std.proofs.Common.{◌≡◌, drop}
use Rattle.apd_term.specs.Listed.{each_as}
use Rattle.apd_term.proofs.Listed.{with_front}
use Rattle.apd_clauses.specs.Indicators.{name_alone}
use Rattle.apd_load.proofs.op_terms.names_alone.Given as goal

abbrev pub invariant-terms : goal.invariant-terms
invariant-terms l = each_as name_alone l.terms ≡ with_front l.names (each_as name_alone (drop l.term-index l.terms))

use Rattle.std.proofs.Common.{◌≡◌, drop}
use Rattle.apd_term.specs.Listed.{each_as}
use Rattle.apd_term.proofs.Listed.{with_front}
use Rattle.apd_clauses.specs.Indicators.{predicate_from}
use Rattle.apd_commands.proofs.filters.predicates.Given as goal

abbrev pub invariant-terms : goal.invariant-terms
invariant-terms l = each_as predicate_from l.terms ≡ with_front l.preds (each_as predicate_from (drop l.term-index l.terms))

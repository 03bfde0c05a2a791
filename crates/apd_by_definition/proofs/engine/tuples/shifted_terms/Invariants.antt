use Rattle.std.proofs.Common.{◌≡◌, ◌+◌, map, take}
use Rattle.apd_term.specs.Term.{apply, variable}
use Rattle.apd_by_definition.proofs.engine.tuples.shifted_terms.Given as goal

abbrev pub invariant-terms : goal.invariant-terms
invariant-terms l = l.all ≡ map (apply (λ v. variable (l.base + v))) (take l.term-index l.terms)

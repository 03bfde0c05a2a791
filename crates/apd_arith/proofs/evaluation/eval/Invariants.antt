use Rattle.std.proofs.Common.{◌≡◌, reverse, map, drop}
use Rattle.apd_term.specs.Term.{read_all}
use Rattle.apd_arith.specs.Value.{value}
use Rattle.apd_arith.proofs.evaluation.eval.Given as goal

abbrev pub invariant-symbols : goal.invariant-symbols
invariant-symbols l = reverse l.values.items ≡ map value (read_all (drop l.at l.symbols))

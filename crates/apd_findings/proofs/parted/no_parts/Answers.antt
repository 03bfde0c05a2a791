use Rattle.std.proofs.Common.{List, ap}
use Rattle.apd_term.specs.Term.{Term}
use Rattle.apd_index.specs.Retrieval.{has_general, has_special}
use Rattle.apd_findings.proofs.parted.no_parts.Goals as goal

pub returns-clause-affirmed : goal.returns-clause-affirmed
returns-clause-affirmed c = λ a. ap (λ (xs : List Term). has_general xs a) c.new.ensures

pub returns-clause-denied : goal.returns-clause-denied
returns-clause-denied c = λ a. ap (λ (xs : List Term). has_special xs a) c.new-2.ensures

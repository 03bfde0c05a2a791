use Rattle.std.proofs.Common.{subst}
use Rattle.apd_cells.specs.Stored.{Stored}
use Rattle.apd_cells.specs.Numbered.{IsNumbered}
use Rattle.apd_cells.proofs.Numbering.{is_numbered}
use Rattle.apd_unify.proofs.store.Store.variables.Goals as goal

pub returns-clause-numbered : goal.returns-clause-numbered
returns-clause-numbered c = subst (λ (s : Stored). IsNumbered s) c.self.view_is (is_numbered c.self.inside.heap c.variables.ensures.store)

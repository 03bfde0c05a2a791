use Rattle.std.proofs.Common.{◌∙◌, ap, refl}
use Rattle.apd_cells.specs.Store.{at_mark}
use Rattle.apd_cells.proofs.Undone.{undone_nothing}
use Rattle.apd_unify.proofs.store.Store.undo.Goals as goal

pub undo-requires-clause-front : goal.undo-requires-clause-front
undo-requires-clause-front c = record { whole = refl; below = λ v o. absurd o }

pub returns : goal.returns
returns c = c.undo.ensures ∙ undone_nothing c.args.mark.0 c.self.inside.heap c.variables-variables.ensures.store ∙ ap (at_mark c.args.mark.0) c.self.view_is

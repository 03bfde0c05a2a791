use Rattle.std.proofs.Common.{◌∙◌, ap, sym}
use Rattle.apd_tuples.specs.Cells.{cell_at, head_at}
use Rattle.apd_tuples.proofs.spots.head_at.Goals as goal

pub returns-then-has_goals : goal.returns-then-has_goals
returns-then-has_goals c =
    c.cell_at.ensures ∙ ap (cell_at c.args.cells.now) c.head_place.ensures
    ∙ ap (λ has. head_at c.args.cells.now has c.args.at) (sym c.if-has_goals.true)

pub returns : goal.returns
returns c = c.cell_at-2.ensures ∙ ap (λ has. head_at c.args.cells.now has c.args.at) (sym c.if-has_goals.false)

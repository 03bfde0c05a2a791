use Rattle.std.proofs.Common.{◌∙◌, ap, subst, sym}
use Rattle.apd_tuples.specs.Cells.{goals_at, IsWithin}
use Rattle.apd_tuples.proofs.spots.goals_at.Goals as goal

pub returns-then-not-has_goals : goal.returns-then-not-has_goals
returns-then-not-has_goals c = ap (λ has. goals_at c.args.cells.now has c.args.at) (sym c.if-not-has_goals.true)

pub goals_behind-requires : goal.goals_behind-requires
goals_behind-requires c = subst (λ has. IsWithin c.args.cells.now has c.args.at) c.if-not-has_goals.false c.requires

pub returns : goal.returns
returns c = c.goals_behind.ensures ∙ ap (λ has. goals_at c.args.cells.now has c.args.at) (sym c.if-not-has_goals.false)

use Rattle.std.proofs.Common.{◌<◌, ◌∙◌, ap, subst, sym, length}
use Rattle.apd_term.specs.Canonical.{canonical}
use Rattle.apd_cells.specs.Stored.{Stored}
use Rattle.apd_cells.specs.Store.{term_at}
use Rattle.apd_tuples.specs.Spots.{spot_at}
use Rattle.apd_tuples.specs.Tuples.{IsThere}
use Rattle.apd_tuples.proofs.Alone.{goal_none, goal_some, inside_get}
use Rattle.apd_tuples.proofs.Standing.{got_none, got_tuple, there_get}
use Rattle.apd_tuples.proofs.tuples.KeptTuples.goal.Goals as goal

pub returns-in-None : goal.returns-in-None
returns-in-None c = λ t at. (let none = got_none c.self.inside.past c.self.inside.spots c.args.number c.args.self.now c.self.view_is c.in-None.ensures in cc)

pub returns-in-None-cell_at : goal.returns-in-None-cell_at
returns-in-None-cell_at c = λ t at.
    goal_none c.self.inside.past (spot_at c.in-Some.spot) t c.args.k (got_tuple c.self.inside.past c.self.inside.spots c.args.number c.args.self.now (spot_at c.in-Some.spot) c.self.view_is c.in-Some.ensures t at) (sym c.cell_at.ensures ∙ c.in-None-cell_at.is)

pub term-requires : goal.term-requires
term-requires c =
    let there : IsThere c.self.inside.past (spot_at c.in-Some.spot) = there_get c.self.inside.past c.self.inside.spots c.args.number (spot_at c.in-Some.spot) c.self.invariant c.in-Some.ensures in
    subst (λ (s : Stored). c.in-Some-cell_at.cell.0 < length s.cells) (sym c.at-then.ensures) (inside_get (length c.self.inside.past.cells) c.in-Some.spot.goals.now c.args.k c.in-Some-cell_at.cell there.goals (sym c.cell_at.ensures ∙ c.in-Some-cell_at.is))

pub returns-in_ok-goal-in-Some-cell_at : goal.returns-in_ok-goal-in-Some-cell_at
returns-in_ok-goal-in-Some-cell_at c = λ t at.
    goal_some c.self.inside.past (spot_at c.in-Some.spot) t c.args.k (got_tuple c.self.inside.past c.self.inside.spots c.args.number c.args.self.now (spot_at c.in-Some.spot) c.self.view_is c.in-Some.ensures t at)
    c.in-Some-cell_at.cell c.in_ok-goal-in-Some-cell_at.goal (sym c.cell_at.ensures ∙ c.in-Some-cell_at.is) (c.in_ok-goal-in-Some-cell_at.ensures ∙ ap (λ (s : Stored). canonical (term_at s c.in-Some-cell_at.cell.0)) c.at-then.ensures)

use Rattle.std.proofs.Common.{◌≡◌, ◌+◌, ◌∙◌, ap, arith, drop, take}
use Rattle.std.proofs.lemmas.Slice.{between_is}
use Rattle.apd_tuples.specs.Cells.{cell_at, goals_of}
use Rattle.apd_tuples.proofs.spots.goals_behind.Goals as goal

pub slice_bounds-result-end : goal.slice_bounds-result-end
slice_bounds-result-end c =
    let count : c.goals_of-count.result ≡ goals_of (cell_at c.args.cells.now c.args.at) = c.goals_of-count.ensures ∙ ap goals_of c.cell_at.ensures in
    omega (arith, count, c.requires)

pub returns : goal.returns
returns c =
    let cells = c.args.cells.now in
    between_is cells (c.args.at + 1) (c.args.at + 1 + c.goals_of-count.result)
    ∙ ap (λ n. drop (c.args.at + 1) (take (c.args.at + 1 + n) cells)) (c.goals_of-count.ensures ∙ ap goals_of c.cell_at.ensures)

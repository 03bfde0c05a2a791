use Rattle.std.proofs.Common.{◌≡◌, ◌+◌, ◌<◌, ◌∙◌, true, ap, arith, length, sym}
use Rattle.std.proofs.lemmas.Bool.{OnTrue_at, OnTrue_from}
use Rattle.std.proofs.lemmas.Option.{get_or_from_slice_get}
use Rattle.std.proofs.lemmas.Slice.{between_is}
use Rattle.apd_tuples.specs.Cells.{cell_at, goals_of, kept_cells, Stands}
use Rattle.apd_tuples.proofs.Laid.{compared}
use Rattle.apd_tuples.proofs.cells.stands.Goals as goal

pub returns : goal.returns
returns c =
    let cells = c.args.cells.now in
    let goals = c.args.goals.now in
    let count : c.goals_of.result ≡ length goals = omega arith in
    let inside : c.args.at + length goals < length cells = omega arith in
    OnTrue_from c.are.result (Stands cells true c.args.at c.args.head (kept_cells goals)) (λ e.
    compared cells c.args.at c.args.head goals inside
    (sym (c.goals_of.ensures ∙ ap goals_of c.cell_at.ensures) ∙ count)
    (ap (cell_at cells) (sym c.head_place-place.ensures) ∙ get_or_from_slice_get cells c.head_place-place.result c.args.head (record { 0 = 0 }) (OnTrue_at c.if-not-is_cell.false c.is_cell.ensures))
    (sym (between_is cells (c.args.at + 1) (c.args.at + 1 + length goals)) ∙ OnTrue_at e c.are.ensures))

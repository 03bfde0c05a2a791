use Rattle.std.proofs.Common.{◌∙◌, ap, sym, subst, Some}
use Rattle.std.specs.Prelude.{slice_get}
use Rattle.apd_tuples.specs.Spots.{spot_in, IsSpanned}
use Rattle.apd_tuples.proofs.Spanning.{spanned_get, spots_get, spots_none}
use Rattle.apd_tuples.proofs.spots.Spots.get.Goals as goal

pub spot_in-requires : goal.spot_in-requires
spot_in-requires c =
    subst (λ cs. IsSpanned cs c.in-Some.row) (sym c.as_slice-in-Some.ensures.value)
    (spanned_get c.self.inside.cells.items c.self.inside.rows.items c.args.number c.in-Some.row c.self.invariant
    (ap (λ rows. slice_get rows c.args.number) (sym c.as_slice.ensures.value) ∙ sym c.row_at.ensures ∙ c.in-Some.is))

pub returns-in-None : goal.returns-in-None
returns-in-None c =
    ap (λ ps. slice_get ps c.args.number) (sym c.self.view_is)
    ∙ spots_none c.self.inside.cells.items c.self.inside.rows.items c.args.number c.row_at.result (c.row_at.ensures ∙ ap (λ rows. slice_get rows c.args.number) c.as_slice.ensures.value) c.in-None.is

pub returns-in-Some : goal.returns-in-Some
returns-in-Some c =
    ap (λ ps. slice_get ps c.args.number) (sym c.self.view_is)
    ∙ spots_get c.self.inside.cells.items c.self.inside.rows.items c.args.number c.row_at.result c.in-Some.row (c.row_at.ensures ∙ ap (λ rows. slice_get rows c.args.number) c.as_slice.ensures.value) c.in-Some.is
    ∙ ap (λ cs. Some (spot_in cs c.in-Some.row)) (sym c.as_slice-in-Some.ensures.value)
    ∙ ap (λ p. Some p) (sym c.spot_in.ensures)

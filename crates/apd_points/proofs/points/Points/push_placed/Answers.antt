use Rattle.std.proofs.Common.{◌≡◌, ◌++◌, ◌∷◌, [], length, ap, subst, sym, ◌∙◌}
use Rattle.apd_points.specs.declared.kept.KeptPoint.{KeptPoint}
use Rattle.apd_points.specs.declared.packed.PackedPoint.{PackedPoint}
use Rattle.apd_points.specs.declared.packed.WholePoint.{WholePoint}
use Rattle.apd_points.specs.Packed.{row_of, unpacked_from, Fits, IsPacked, Listed}
use Rattle.apd_points.proofs.Packing.{number_fits, own_packed, put_own, row_behind, unpacked_length}
use Rattle.apd_points.proofs.points.Points.push_placed.Goals as goal

pub behind-requires : goal.behind-requires
behind-requires c = number_fits c.point.inside.place c.point.inside.row c.point.invariant

-- the row fits at the end
fits_last : (c : goal.After-push_reserved) → Fits (length c.self.inside.rows.items) c.args.point.now c.args.earlier
fits_last c =
    let n : length c.self.inside.rows.items ≡ length c.args.self.now.rows = sym (unpacked_length c.self.inside.others.items 0 c.self.inside.rows.items) ∙ ap (λ (l : Listed). length l.rows) c.self.view_is in
    subst (λ n. Fits n c.args.point.now c.args.earlier) (sym n) c.requires.fits

rows_now : (c : goal.After-push_reserved) → c.push_reserved.new.self.items ≡ c.self.inside.rows.items ++ row_of c.args.point.now c.args.earlier ∷ []
rows_now c =
    c.push_reserved.ensures.items
    ∙ ap (λ (r : PackedPoint). c.self.inside.rows.items ++ r ∷ [])
    (c.behind.ensures
    ∙ row_behind c.point.inside.place c.point.inside.row c.args.earlier c.point.invariant
    ∙ ap (λ (x : KeptPoint). row_of x c.args.earlier) c.point.view_is)

pub invariant_of-self : goal.invariant_of-self
invariant_of-self c =
    subst (λ rs. IsPacked rs c.self.inside.others.items) (sym (rows_now c))
    (own_packed c.self.inside.rows.items c.self.inside.others.items c.self.invariant (row_of c.args.point.now c.args.earlier) (fits_last c).part)

pub returns : goal.returns
returns c =
    let w : WholePoint = record { point = c.args.point.now; earlier = c.args.earlier } in
    ap (unpacked_from c.self.inside.others.items 0) (rows_now c)
    ∙ put_own c.self.inside.rows.items c.self.inside.others.items c.self.invariant (row_of c.args.point.now c.args.earlier) w (fits_last c).part (fits_last c).told
    ∙ ap (λ (l : Listed). l.rows ++ w ∷ []) c.self.view_is

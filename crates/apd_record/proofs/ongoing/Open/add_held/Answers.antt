use Rattle.std.proofs.Common.{◌≡◌, ◌≤◌, length, ap, subst, sym, ◌∙◌, Some, None}
use Rattle.std.specs.Prelude.{OnOk}
use Rattle.std.proofs.lemmas.Bool.{OnTrue_at}
use Rattle.apd_points.specs.declared.kept.KeptPoint.{KeptPoint}
use Rattle.apd_points.specs.Packed.{Fits}
use Rattle.apd_points.proofs.Packing.{points_length}
use Rattle.apd_record.specs.Index.{IsBelow}
use Rattle.apd_record.specs.Open.{held_in, point_of_row, point_row, rows_held, with_point_row, MayAdd, Rows}
use Rattle.apd_record.specs.declared.ongoing.OpenPoint.{OpenPoint}
use Rattle.apd_record.proofs.Opening.{row_from_fits}
use Rattle.apd_record.proofs.ongoing.Open.add_held.Goals as goal

pub add_row-requires-clause-owner : goal.add_row-requires-clause-owner
add_row-requires-clause-owner c =
    let is : c.args.held.now ≡ Some (point_of_row c.held.inside.placed) = sym c.held.view_is ∙ ap (λ h. held_in h c.held.inside.placed c.held.inside.whole) c.in-Row.is in
    let point : c.point_of_row.result ≡ point_of_row c.held.inside.placed = c.point_of_row.ensures ∙ ap point_of_row c.get.ensures in
    let may : MayAdd c.args.self.now (Some (point_of_row c.held.inside.placed)) = subst (MayAdd c.args.self.now) is c.requires.may in
    subst (λ (p : OpenPoint). p.owner ≤ length c.args.self.now.boxes) (sym point) may.0

pub add_row-requires-clause-before : goal.add_row-requires-clause-before
add_row-requires-clause-before c =
    let is : c.args.held.now ≡ Some (point_of_row c.held.inside.placed) = sym c.held.view_is ∙ ap (λ h. held_in h c.held.inside.placed c.held.inside.whole) c.in-Row.is in
    let point : c.point_of_row.result ≡ point_of_row c.held.inside.placed = c.point_of_row.ensures ∙ ap point_of_row c.get.ensures in
    let may : MayAdd c.args.self.now (Some (point_of_row c.held.inside.placed)) = subst (MayAdd c.args.self.now) is c.requires.may in
    subst (λ (p : OpenPoint). IsBelow (length c.args.self.now.points) p.before) (sym point) may.1

pub add_row-requires-clause-row : goal.add_row-requires-clause-row
add_row-requires-clause-row c =
    let point : c.point_of_row.result ≡ point_of_row c.held.inside.placed = c.point_of_row.ensures ∙ ap point_of_row c.get.ensures in
    row_from_fits (length c.self.inside.points.rows) c.held.inside.placed None (OnTrue_at c.if-is_next.true c.is_next.ensures) ∙ ap point_row (sym point)

pub add_row-requires-clause-fits : goal.add_row-requires-clause-fits
add_row-requires-clause-fits c =
    let point : c.point_of_row.result ≡ point_of_row c.held.inside.placed = c.point_of_row.ensures ∙ ap point_of_row c.get.ensures in
    let next : Fits (length c.self.inside.points.rows) c.held.inside.placed None = OnTrue_at c.if-is_next.true c.is_next.ensures in
    let row : c.held.inside.placed ≡ point_row c.point_of_row.result = row_from_fits (length c.self.inside.points.rows) c.held.inside.placed None next ∙ ap point_row (sym point) in
    let same : length c.self.inside.points.rows ≡ length c.args.self.now.points = sym (points_length c.self.inside.points) ∙ ap (λ (r : Rows). length r.points) c.self.view_is in
    subst (λ (x : KeptPoint). Fits (length c.args.self.now.points) x None) row (subst (λ k. Fits k c.held.inside.placed None) same next)

pub returns-then-is_next-clause-added : goal.returns-then-is_next-clause-added
returns-then-is_next-clause-added c =
    let is : c.args.held.now ≡ Some (point_of_row c.held.inside.placed) = sym c.held.view_is ∙ ap (λ h. held_in h c.held.inside.placed c.held.inside.whole) c.in-Row.is in
    let point : c.point_of_row.result ≡ point_of_row c.held.inside.placed = c.point_of_row.ensures ∙ ap point_of_row c.get.ensures in
    subst (λ h. OnOk c.add_row.result (c.add_row.new.self ≡ rows_held c.args.self.now h)) (sym is)
    (subst (λ (p : OpenPoint). OnOk c.add_row.result (c.add_row.new.self ≡ with_point_row c.args.self.now p)) point c.add_row.ensures.added)

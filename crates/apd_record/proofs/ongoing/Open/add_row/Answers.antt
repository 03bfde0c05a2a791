use Rattle.std.proofs.Common.{List, ◌≡◌, ◌≤◌, ◌<◌, ◌-◌, ◌^◌, ◌++◌, ◌∷◌, [], length, ap, arith, not, refl, subst, sym, ◌∙◌, map, get_or, None, ◌==◌}
use Rattle.std.specs.Prelude.{nat_lt}
use Rattle.std.proofs.lemmas.List.{length-map}
use Rattle.std.proofs.lemmas.Option.{slice_get-get_or, MatchOption-at_some}
use Rattle.apd_boxes.specs.Boxes.{BoxList}
use Rattle.apd_boxes.specs.Owned.{nothing}
use Rattle.apd_points.specs.declared.kept.KeptPoint.{KeptPoint}
use Rattle.apd_points.specs.declared.packed.WholePoint.{WholePoint}
use Rattle.apd_record.specs.Index.{is_exit, IsBelow}
use Rattle.apd_record.specs.Kept.{box_from}
use Rattle.apd_record.specs.Open.{blank_point, point_row, with_point_row, IsBeside, Rows}
use Rattle.apd_record.specs.Ordered.{IsOrdered}
use Rattle.apd_record.proofs.Found.{ordered-next}
use Rattle.apd_record.proofs.Opening.{beside_point, exit_of, fits-next, fits_earlier}
use Rattle.apd_points.specs.Packed.{earlier_of_row, links_of, point_in, points_of, Fits}
use Rattle.apd_points.proofs.Packing.{links_pushed, points_length, points_pushed}
use Rattle.apd_record.proofs.ongoing.Open.add_row.Goals as goal

pub invariant_of-self : goal.invariant_of-self
invariant_of-self c =
    subst (λ ws. IsBeside (record { boxes = c.self.inside.boxes.boxes; points = map point_in ws }) c.self.inside.boxes.owned (map earlier_of_row ws) c.self.inside.order) (sym c.room_for_row.ensures.rows) c.self.invariant

pub add-requires-clause-owner : goal.add-requires-clause-owner
add-requires-clause-owner c =
    let boxes = ap (λ (r : Rows). length r.boxes) c.self.view_is in
    let n = length-map c.self.inside.boxes.boxes (box_from [] []) in
    omega (arith, c.requires.owner, boxes, n, c.self.invariant.index.boxes)

pub invariant_of-self-in_err-earlier : goal.invariant_of-self-in_err-earlier
invariant_of-self-in_err-earlier c =
    subst (λ ws. IsBeside (record { boxes = c.add.new.self.boxes; points = map point_in ws }) c.add.new.self.owned (map earlier_of_row ws) c.self.inside.order) (sym c.room_for_row.ensures.rows)
    (subst (λ (l : BoxList). IsBeside (record { boxes = l.boxes; points = points_of c.self.inside.points }) l.owned (links_of c.self.inside.points) c.self.inside.order) (sym c.in_err-earlier.ensures.err) c.self.invariant)

pub push_placed-requires-clause-fits : goal.push_placed-requires-clause-fits
push_placed-requires-clause-fits c =
    let points = ap (λ (r : Rows). length r.points) c.self.view_is in
    let same : length c.args.self.now.points ≡ length c.room_for_row.new.self.rows = sym points ∙ points_length c.self.inside.points ∙ sym (ap length c.room_for_row.ensures.rows) in
    let boxes = ap (λ (r : Rows). length r.boxes) c.self.view_is in
    let n = length-map c.self.inside.boxes.boxes (box_from [] []) in
    let there : c.args.point.owner < length c.self.inside.boxes.owned = omega (arith, c.requires.owner, boxes, n, c.self.invariant.index.boxes) in
    let at = slice_get-get_or c.self.inside.boxes.owned c.args.point.owner nothing there in
    let earlier = MatchOption-at_some _ _ (get_or c.self.inside.boxes.owned c.args.point.owner nothing) at c.in_ok-earlier.ensures.earlier in
    subst (λ (x : KeptPoint). Fits (length c.room_for_row.new.self.rows) x c.in_ok-earlier.earlier) (sym c.requires.row)
    (fits_earlier (length c.room_for_row.new.self.rows) (point_row c.args.point) (c.args.point.done == 0) c.in_ok-earlier.earlier (get_or c.self.inside.boxes.owned c.args.point.owner nothing) refl earlier
    (subst (λ k. Fits k (point_row c.args.point) None) same c.requires.fits))

-- the row that is put
abbrev row_of : (c : goal.After-push_placed) → WholePoint
row_of c = record { point = point_row c.args.point; earlier = c.in_ok-earlier.earlier }

rows_now : (c : goal.After-push_placed) → c.push_placed.new.self.rows ≡ c.self.inside.points.rows ++ row_of c ∷ []
rows_now c =
    c.push_placed.ensures
    ∙ ap (λ ws. ws ++ record { point = c.args.row.now; earlier = c.in_ok-earlier.earlier } ∷ []) c.room_for_row.ensures.rows
    ∙ ap (λ (x : KeptPoint). c.self.inside.points.rows ++ record { point = x; earlier = c.in_ok-earlier.earlier } ∷ []) c.requires.row

pub invariant_of-self-2 : goal.invariant_of-self-2
invariant_of-self-2 c =
    let r : Rows = record { boxes = c.self.inside.boxes.boxes; points = (points_of c.self.inside.points) } in
    let number : c.len-number.result ≡ length (points_of c.self.inside.points) = c.len-number.ensures ∙ sym (points_length c.self.inside.points) in
    let exit : not (nat_lt c.args.point.done c.args.point.tuple.goals) ≡ is_exit (blank_point (point_row c.args.point)) = sym (exit_of c.args.point) in
    let owner : c.args.point.owner ≤ length r.boxes = subst (λ (r : Rows). c.args.point.owner ≤ length r.boxes) (sym c.self.view_is) c.requires.owner in
    let below : IsBelow (length r.points) c.args.point.before = subst (λ (r : Rows). IsBelow (length r.points) c.args.point.before) (sym c.self.view_is) c.requires.before in
    let few : length r.points < 2 ^ 32 - 1 = subst (λ (r : Rows). length r.points < 2 ^ 32 - 1) (sym c.self.view_is) c.requires.few in
    let points = ap (λ (r : Rows). length r.points) c.self.view_is in
    let fits : Fits (length r.points) (point_row c.args.point) None = subst (λ k. Fits k (point_row c.args.point) None) (sym points) c.requires.fits in
    let order : IsOrdered c.self.inside.order c.self.inside.boxes.boxes (points_of c.self.inside.points ++ point_row c.args.point ∷ []) =
    ordered-next c.self.inside.order c.self.inside.boxes.boxes (points_of c.self.inside.points) (point_row c.args.point) c.self.invariant.ordered (fits-next (length r.points) (point_row c.args.point) None fits below) in
    subst (λ (l : BoxList). IsBeside (record { boxes = l.boxes; points = points_of c.push_placed.new.self }) l.owned (links_of c.push_placed.new.self) c.self.inside.order) (sym c.in_ok-earlier.ensures.ok)
    (beside_point r c.self.inside.boxes.owned _ (links_of c.self.inside.points) _ c.self.inside.order _ (point_row c.args.point) _ c.in_ok-earlier.earlier c.self.invariant owner below few
    (λ d there. MatchOption-at_some _ _ d there c.in_ok-earlier.ensures.earlier)
    (points_pushed c.self.inside.points c.push_placed.new.self (row_of c) (rows_now c))
    (rw (c.are_solved-is_exit.ensures, exit, number) refl)
    (links_pushed c.self.inside.points c.push_placed.new.self (row_of c) (rows_now c)) order)

pub returns-clause-added : goal.returns-clause-added
returns-clause-added c =
    ap (λ (l : BoxList). record { boxes = l.boxes; points = points_of c.push_placed.new.self }) c.in_ok-earlier.ensures.ok
    ∙ ap (λ (xs : List KeptPoint). record { boxes = c.self.inside.boxes.boxes; points = xs })
    (points_pushed c.self.inside.points c.push_placed.new.self (row_of c) (rows_now c))
    ∙ ap (λ (r : Rows). with_point_row r c.args.point) c.self.view_is

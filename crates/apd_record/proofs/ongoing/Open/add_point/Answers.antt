use Rattle.std.proofs.Common.{List, ◌≡◌, ◌≤◌, ◌<◌, ◌-◌, ◌^◌, ◌++◌, ◌∷◌, [], length, ap, arith, not, refl, subst, sym, ◌∙◌, map}
use Rattle.std.specs.Prelude.{nat_lt}
use Rattle.std.proofs.lemmas.List.{length-map}
use Rattle.std.proofs.lemmas.Option.{MatchOption-at_some}
use Rattle.apd_boxes.specs.Boxes.{BoxList}
use Rattle.apd_points.specs.declared.kept.KeptPoint.{KeptPoint}
use Rattle.apd_points.specs.declared.packed.WholePoint.{WholePoint}
use Rattle.apd_record.specs.Index.{is_exit, IsBelow}
use Rattle.apd_record.specs.Kept.{box_from}
use Rattle.apd_record.specs.Open.{blank_point, point_row, with_point_row, IsBeside, Rows}
use Rattle.apd_record.specs.Ordered.{IsOrdered}
use Rattle.apd_record.proofs.Found.{ordered-point}
use Rattle.apd_record.proofs.Opening.{beside_point, exit_of}
use Rattle.apd_points.specs.Packed.{earlier_of_row, links_of, point_in, points_of}
use Rattle.apd_points.proofs.Packing.{links_pushed, points_length, points_pushed}
use Rattle.apd_record.proofs.ongoing.Open.add_point.Goals as goal

pub invariant_of-self : goal.invariant_of-self
invariant_of-self c =
    subst (λ ws. IsBeside (record { boxes = c.self.inside.boxes.boxes; points = map point_in ws }) c.self.inside.boxes.owned (map earlier_of_row ws) c.self.inside.order) (sym c.room.ensures.rows) c.self.invariant

pub add-requires-clause-owner : goal.add-requires-clause-owner
add-requires-clause-owner c =
    let boxes = ap (λ (r : Rows). length r.boxes) c.self.view_is in
    let n = length-map c.self.inside.boxes.boxes (box_from [] []) in
    omega (arith, c.requires.owner, boxes, n, c.self.invariant.index.boxes)

pub invariant_of-self-in_err-earlier : goal.invariant_of-self-in_err-earlier
invariant_of-self-in_err-earlier c =
    subst (λ ws. IsBeside (record { boxes = c.add.new.self.boxes; points = map point_in ws }) c.add.new.self.owned (map earlier_of_row ws) c.self.inside.order) (sym c.room.ensures.rows)
    (subst (λ (l : BoxList). IsBeside (record { boxes = l.boxes; points = points_of c.self.inside.points }) l.owned (links_of c.self.inside.points) c.self.inside.order) (sym c.in_err-earlier.ensures.err) c.self.invariant)

pub push_reserved-requires-clause-few : goal.push_reserved-requires-clause-few
push_reserved-requires-clause-few c =
    let points = ap (λ (r : Rows). length r.points) c.self.view_is in
    omega (arith, c.requires.few, points, points_length c.self.inside.points, ap length c.room.ensures.rows)

pub stays_in_turn-self-inside-requires : goal.stays_in_turn-self-inside-requires
stays_in_turn-self-inside-requires c =
    let number : c.len-number.result ≡ length (points_of c.self.inside.points) = c.len-number.ensures ∙ sym (points_length c.self.inside.points) in
    let points = ap (λ (r : Rows). length r.points) c.self.view_is in
    subst (λ n. IsBelow n c.args.point.before) (sym points ∙ sym number) c.requires.before

-- the row that is put
abbrev row_of : (c : goal.After-push_reserved) → WholePoint
row_of c = record { point = point_row c.args.point; earlier = c.in_ok-earlier.earlier }

rows_now : (c : goal.After-push_reserved) → c.push_reserved.new.self.rows ≡ c.self.inside.points.rows ++ row_of c ∷ []
rows_now c =
    c.push_reserved.ensures
    ∙ ap (λ ws. ws ++ record { point = c.row_of.result; earlier = c.in_ok-earlier.earlier } ∷ []) c.room.ensures.rows
    ∙ ap (λ (x : KeptPoint). c.self.inside.points.rows ++ record { point = x; earlier = c.in_ok-earlier.earlier } ∷ []) c.row_of.ensures

pub invariant_of-self-2 : goal.invariant_of-self-2
invariant_of-self-2 c =
    let r : Rows = record { boxes = c.self.inside.boxes.boxes; points = (points_of c.self.inside.points) } in
    let number : c.len-number.result ≡ length (points_of c.self.inside.points) = c.len-number.ensures ∙ sym (points_length c.self.inside.points) in
    let exit : not (nat_lt c.args.point.done c.args.point.tuple.goals) ≡ is_exit (blank_point (point_row c.args.point)) = sym (exit_of c.args.point) in
    let owner : c.args.point.owner ≤ length r.boxes = subst (λ (r : Rows). c.args.point.owner ≤ length r.boxes) (sym c.self.view_is) c.requires.owner in
    let below : IsBelow (length r.points) c.args.point.before = subst (λ (r : Rows). IsBelow (length r.points) c.args.point.before) (sym c.self.view_is) c.requires.before in
    let few : length r.points < 2 ^ 32 - 1 = subst (λ (r : Rows). length r.points < 2 ^ 32 - 1) (sym c.self.view_is) c.requires.few in
    let order : IsOrdered (record { in_turn = c.stays_in_turn-self-inside.result; rising = c.self.inside.order.rising; above = c.self.inside.order.above }) c.self.inside.boxes.boxes ((points_of c.self.inside.points) ++ point_row c.args.point ∷ []) =
    ordered-point c.self.inside.order c.self.inside.boxes.boxes (points_of c.self.inside.points) (point_row c.args.point) c.stays_in_turn-self-inside.result c.len-number.result c.self.invariant.ordered number c.stays_in_turn-self-inside.ensures.was c.stays_in_turn-self-inside.ensures.next in
    subst (λ (l : BoxList). IsBeside (record { boxes = l.boxes; points = points_of c.push_reserved.new.self }) l.owned (links_of c.push_reserved.new.self) (record { in_turn = c.stays_in_turn-self-inside.result; rising = c.self.inside.order.rising; above = c.self.inside.order.above })) (sym c.in_ok-earlier.ensures.ok)
    (beside_point r c.self.inside.boxes.owned _ (links_of c.self.inside.points) _ c.self.inside.order _ (point_row c.args.point) _ c.in_ok-earlier.earlier c.self.invariant owner below few
    (λ d there. MatchOption-at_some _ _ d there c.in_ok-earlier.ensures.earlier)
    (points_pushed c.self.inside.points c.push_reserved.new.self (row_of c) (rows_now c))
    (rw (c.are_solved-is_exit.ensures, exit, number) refl)
    (links_pushed c.self.inside.points c.push_reserved.new.self (row_of c) (rows_now c)) order)

pub returns-clause-added : goal.returns-clause-added
returns-clause-added c =
    ap (λ (l : BoxList). record { boxes = l.boxes; points = points_of c.push_reserved.new.self }) c.in_ok-earlier.ensures.ok
    ∙ ap (λ (xs : List KeptPoint). record { boxes = c.self.inside.boxes.boxes; points = xs })
    (points_pushed c.self.inside.points c.push_reserved.new.self (row_of c) (rows_now c))
    ∙ ap (λ (r : Rows). with_point_row r c.args.point) c.self.view_is

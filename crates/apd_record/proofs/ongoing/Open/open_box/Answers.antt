use Rattle.std.proofs.Common.{◌++◌, ◌∷◌, [], length, ap, arith, subst, sym, ◌∙◌}
use Rattle.apd_boxes.specs.Boxes.{BoxList}
use Rattle.apd_record.specs.Open.{box_row, IsBeside, Rows}
use Rattle.apd_record.specs.Ordered.{IsOrdered}
use Rattle.apd_record.proofs.Found.{ordered-box}
use Rattle.apd_record.proofs.Opening.{beside_box}
use Rattle.apd_points.specs.Packed.{links_of, points_of}
use Rattle.apd_record.proofs.ongoing.Open.open_box.Goals as goal

pub note_call-requires : goal.note_call-requires
note_call-requires c =
    let n = ap (λ (r : Rows). length r.points) c.self.view_is in
    omega (arith, c.requires.from, n, c.self.invariant.points)

pub invariant_of-self : goal.invariant_of-self
invariant_of-self c =
    subst (λ (l : BoxList). IsBeside (record { boxes = l.boxes; points = points_of c.self.inside.points }) l.owned (links_of c.self.inside.points) c.self.inside.order) (sym c.in_err-open.ensures.err) c.self.invariant

pub invariant_of-self-2 : goal.invariant_of-self-2
invariant_of-self-2 c =
    let n = ap (λ (r : Rows). length r.points) c.self.view_is in
    let m = ap (λ (r : Rows). length r.boxes) c.self.view_is in
    let order : IsOrdered c.note_call.new.order (c.self.inside.boxes.boxes ++ box_row c.args.from.0 c.args.user c.args.size ∷ []) (points_of c.self.inside.points) =
    ordered-box c.self.inside.order c.note_call.new.order c.self.inside.boxes.boxes (points_of c.self.inside.points) (box_row c.args.from.0 c.args.user c.args.size) c.self.invariant.ordered
    c.note_call.ensures.in_turn c.note_call.ensures.was c.note_call.ensures.later c.note_call.ensures.above in
    beside_box (record { boxes = c.self.inside.boxes.boxes; points = points_of c.self.inside.points }) c.self.inside.boxes.owned _ (links_of c.self.inside.points) c.self.inside.order _
    (box_row c.args.from.0 c.args.user c.args.size) _ c.self.invariant (omega (arith, c.requires.from, n)) (omega (arith, c.requires.few, m))
    (ap (λ (l : BoxList). l.boxes) c.in_ok-open.ensures.ok) (ap (λ (l : BoxList). l.owned) c.in_ok-open.ensures.ok) order

pub returns-clause-opened : goal.returns-clause-opened
returns-clause-opened c =
    ap (λ (l : BoxList). record { boxes = l.boxes; points = points_of c.self.inside.points }) c.in_ok-open.ensures.ok
    ∙ ap (λ (r : Rows). record { boxes = r.boxes ++ box_row c.args.from.0 c.args.user c.args.size ∷ []; points = r.points }) c.self.view_is

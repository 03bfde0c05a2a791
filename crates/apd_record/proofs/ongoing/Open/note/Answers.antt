use Rattle.std.proofs.Common.{◌-◌, ap, refl, subst, sym, ◌∙◌}
use Rattle.apd_boxes.specs.Boxes.{kept_passed, BoxList}
use Rattle.apd_boxes.specs.Owned.{edited}
use Rattle.apd_record.specs.Open.{noted_row, IsBeside, Rows}
use Rattle.apd_record.proofs.Opening.{beside_noted, noted_as}
use Rattle.apd_points.specs.Packed.{links_of, points_of}
use Rattle.apd_record.proofs.ongoing.Open.note.Goals as goal

pub invariant_of-self : goal.invariant_of-self
invariant_of-self c =
    subst (λ (l : BoxList). IsBeside (record { boxes = l.boxes; points = points_of c.self.inside.points }) l.owned (links_of c.self.inside.points) c.self.inside.order) (sym c.pass.ensures)
    (beside_noted (record { boxes = c.self.inside.boxes.boxes; points = points_of c.self.inside.points }) c.self.inside.boxes.owned (links_of c.self.inside.points) c.self.inside.order c.args.port (c.args.box_no - 1)
    (edited (kept_passed c.args.port) c.self.inside.boxes.boxes (c.args.box_no - 1)) c.self.invariant refl)

pub returns : goal.returns
returns c =
    ap (λ (l : BoxList). record { boxes = l.boxes; points = points_of c.self.inside.points }) c.pass.ensures
    ∙ noted_as (record { boxes = c.self.inside.boxes.boxes; points = points_of c.self.inside.points }) c.args.box_no c.args.port c.requires.from
    ∙ ap (λ (r : Rows). noted_row r c.args.box_no c.args.port) c.self.view_is

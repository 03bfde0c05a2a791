use Rattle.std.proofs.Common.{◌≡◌, ap, subst, sym, ◌∙◌, Some}
use Rattle.std.specs.Prelude.{slice_get, IfSome}
use Rattle.apd_boxes.specs.Owned.{Owned}
use Rattle.apd_boxes.specs.Few.{owned_in}
use Rattle.apd_boxes.specs.Boxes.{BoxList}
use Rattle.apd_boxes.specs.Packed.{own}
use Rattle.apd_boxes.proofs.Packing.{owned_read}
use Rattle.apd_boxes.proofs.boxes.Boxes.first.Goals as goal

pub returns : goal.returns
returns c =
    let there : slice_get c.args.self.now.owned c.args.b ≡ Some (owned_in c.self.inside.lists.items (own c.row_of.result.now)) =
    ap (λ (l : BoxList). slice_get l.owned c.args.b) (sym c.self.view_is) ∙ owned_read c.self.inside.lists.items c.self.inside.query c.self.inside.rows.items c.args.b c.row_of.result.now c.row_of.ensures in
    subst (λ o. IfSome o (λ (x : Owned). c.first.result ≡ x.first)) (sym there) c.first.ensures

use Rattle.std.proofs.Common.{◌≡◌, ◌++◌, ◌∷◌, [], false, ap, refl, subst, sym, ◌∙◌, None}
use Rattle.apd_boxes.specs.declared.packed.PackedBox.{PackedBox}
use Rattle.apd_boxes.specs.Facts.{called_facts}
use Rattle.apd_boxes.specs.Packed.{AreBoxes}
use Rattle.apd_boxes.proofs.Packing.{boxes_own}
use Rattle.apd_boxes.proofs.boxes.Boxes.open.Goals as goal

pub invariant_of-self-2 : goal.invariant_of-self-2
invariant_of-self-2 c =
    let row : PackedBox = record { from = c.args.call.from; facts = called_facts c.args.call.number c.args.is_user false; exits = record { 0 = 0 }; first = None } in
    let rows : c.push_reserved.new.self.items ≡ c.self.inside.rows.items ++ row ∷ [] =
    c.push_reserved.ensures.items ∙ ap (λ rs. rs ++ c.new.result ∷ []) c.room_for_one.ensures.items
    ∙ ap (λ (r : PackedBox). c.self.inside.rows.items ++ r ∷ []) (c.new.ensures ∙ ap (λ f. record { from = c.args.call.from; facts = f; exits = record { 0 = 0 }; first = None }) c.called-facts.ensures) in
    subst (λ rs. AreBoxes c.self.inside.calls.items c.self.inside.lists.items c.self.inside.query rs) (sym rows)
    (boxes_own c.self.inside.calls.items c.self.inside.lists.items c.self.inside.query c.self.inside.rows.items row refl c.self.invariant refl)

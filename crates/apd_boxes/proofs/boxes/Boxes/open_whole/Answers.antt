use Rattle.std.proofs.Common.{◌≡◌, ◌++◌, ◌∷◌, [], true, length, ap, refl, subst, sym, ◌∙◌, None}
use Rattle.apd_boxes.specs.declared.packed.PackedBox.{PackedBox}
use Rattle.apd_boxes.specs.Facts.{called_facts}
use Rattle.apd_boxes.specs.Boxes.{called_box, with_box}
use Rattle.apd_boxes.specs.Packed.{boxes_in, AreBoxes}
use Rattle.apd_boxes.proofs.Packing.{boxes_whole, put_whole}
use Rattle.apd_boxes.proofs.boxes.Boxes.open_whole.Goals as goal

-- the row that is put, and what is put where
abbrev row : (c : goal.After-push_reserved-2) → PackedBox
row c = record { from = c.len-place.result; facts = called_facts 0 c.args.is_user true; exits = record { 0 = 0 }; first = None }

calls_now : (c : goal.After-push_reserved-2) → c.push_reserved.new.self.items ≡ c.self.inside.calls.items ++ c.args.call ∷ []
calls_now c = c.push_reserved.ensures.items ∙ ap (λ cs. cs ++ c.args.call ∷ []) c.room_for_one-2.ensures.items

rows_now : (c : goal.After-push_reserved-2) → c.push_reserved-2.new.self.items ≡ c.self.inside.rows.items ++ row c ∷ []
rows_now c =
    c.push_reserved-2.ensures.items ∙ ap (λ rs. rs ++ c.new.result ∷ []) c.room_for_one.ensures.items
    ∙ ap (λ (r : PackedBox). c.self.inside.rows.items ++ r ∷ []) (c.new.ensures ∙ ap (λ f. record { from = c.len-place.result; facts = f; exits = record { 0 = 0 }; first = None }) c.called-facts.ensures)

place : (c : goal.After-push_reserved-2) → c.len-place.result ≡ length c.self.inside.calls.items
place c = c.len-place.ensures ∙ c.self.inside.calls.ok.0

pub invariant_of-self-2 : goal.invariant_of-self-2
invariant_of-self-2 c =
    subst (λ cs. AreBoxes cs c.self.inside.lists.items c.self.inside.query c.push_reserved-2.new.self.items) (sym (calls_now c))
    (subst (λ rs. AreBoxes (c.self.inside.calls.items ++ c.args.call ∷ []) c.self.inside.lists.items c.self.inside.query rs) (sym (rows_now c))
    (boxes_whole c.self.inside.calls.items c.self.inside.lists.items c.self.inside.query c.self.inside.rows.items (row c) refl c.self.invariant c.args.call (place c)))

pub returns-clause-ok : goal.returns-clause-ok
returns-clause-ok c =
    ap (λ cs. boxes_in cs c.self.inside.lists.items c.self.inside.query c.push_reserved-2.new.self.items) (calls_now c)
    ∙ ap (λ rs. boxes_in (c.self.inside.calls.items ++ c.args.call ∷ []) c.self.inside.lists.items c.self.inside.query rs) (rows_now c)
    ∙ put_whole c.self.inside.calls.items c.self.inside.lists.items c.self.inside.query c.self.inside.rows.items (row c) refl c.self.invariant c.args.call (called_box c.args.call.from c.args.call.number c.args.call.is_written c.args.is_user) refl (place c) refl
    ∙ ap (λ l. with_box l (called_box c.args.call.from c.args.call.number c.args.call.is_written c.args.is_user)) c.self.view_is

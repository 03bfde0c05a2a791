use Rattle.std.proofs.Common.{◌<◌, length, ap, arith, ◌∙◌}
use Rattle.std.proofs.lemmas.List.{length-map}
use Rattle.apd_boxes.specs.Boxes.{passing, BoxList}
use Rattle.apd_boxes.specs.Packed.{told_in}
use Rattle.apd_boxes.proofs.Packing.{boxes_passed, put_passed}
use Rattle.apd_boxes.proofs.boxes.Boxes.pass.Goals as goal

pub invariant_of-self : goal.invariant_of-self
invariant_of-self c =
    let within : c.args.place < length c.self.inside.rows.items = omega (arith, c.requires, ap (λ (l : BoxList). length l.boxes) c.self.view_is, length-map c.self.inside.rows.items (told_in c.self.inside.calls.items)) in
    boxes_passed c.self.inside.calls.items c.self.inside.lists.items c.self.inside.query c.self.inside.rows.items c.args.place c.index_mut.result.now _ c.args.port c.index_mut.ensures.value
    (ap (λ f. record { from = c.index_mut.result.now.from; facts = f; exits = c.index_mut.result.now.exits; first = c.index_mut.result.now.first }) c.pass.ensures) within c.self.invariant

pub returns : goal.returns
returns c =
    put_passed c.self.inside.calls.items c.self.inside.lists.items c.self.inside.query c.self.inside.rows.items c.args.place c.index_mut.result.now _ c.args.port c.index_mut.ensures.value
    (ap (λ f. record { from = c.index_mut.result.now.from; facts = f; exits = c.index_mut.result.now.exits; first = c.index_mut.result.now.first }) c.pass.ensures)
    ∙ ap (λ l. passing l c.args.place c.args.port) c.self.view_is

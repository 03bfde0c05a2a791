use Rattle.std.proofs.Common.{◌≡◌, ◌<◌, ◌++◌, ◌∷◌, [], List, length, set, ap, subst, sym, ◌∙◌}
use Rattle.apd_ports.specs.declared.point.PointId.{PointId}
use Rattle.apd_boxes.specs.declared.few.Few.TheVariants as few
use Rattle.apd_boxes.specs.Few.{lists_with, IsFewThere}
use Rattle.apd_boxes.specs.Packed.{few_of}
use Rattle.apd_boxes.proofs.Places.{edited_read}
use Rattle.apd_boxes.proofs.packed.PackedBox.add_exit.Goals as goal

pub returns-in_ok-push-in-Many-clause-lists : goal.returns-in_ok-push-in-Many-clause-lists
returns-in_ok-push-in-Many-clause-lists c =
    let many : few_of c.args.self.now ≡ few.Many c.in-Many.number = sym c.few.ensures ∙ c.in-Many.is in
    let within : c.in-Many.number < length c.args.lists.now.items = subst (IsFewThere (length c.args.lists.now.items)) many c.requires.there in
    ap (set c.args.lists.now.items c.in-Many.number) c.in_ok-push-in-Many.ensures.ok
    ∙ edited_read (λ (ps : List PointId). ps ++ c.args.point ∷ []) c.args.lists.now.items c.in-Many.number c.index_mut.result.now within c.index_mut.ensures.value
    ∙ ap (λ f. lists_with c.args.lists.now.items f c.args.point) (sym many)

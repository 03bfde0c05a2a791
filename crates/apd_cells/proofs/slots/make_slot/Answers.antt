use Rattle.std.proofs.Common.{◌∷◌, ◌++◌, ◌∙◌, [], ap}
use Rattle.apd_cells.specs.declared.slots.Slot.TheVariants.{New}
use Rattle.apd_cells.proofs.Standing.{room_one}
use Rattle.apd_cells.proofs.slots.make_slot.Goals as goal

pub room-preserved : goal.room-preserved
room-preserved c =
    room_one c.args.slots.now.items c.room.slots.items c.push_reserved.new.self.items c.room.invariant
    (c.push_reserved.ensures.items ∙ ap (λ xs. xs ++ New ∷ []) c.room_for_one.ensures.items)

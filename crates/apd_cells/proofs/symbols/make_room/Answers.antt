use Rattle.std.proofs.Common.{◌∷◌, ◌++◌, ◌∙◌, [], ap, arith}
use Rattle.apd_cells.proofs.Room.{more_one}
use Rattle.apd_cells.proofs.symbols.make_room.Goals as goal

pub room-preserved : goal.room-preserved
room-preserved c = record {
  more = more_one c.args.bindings.now.items c.room.bindings.items c.push_reserved.new.self.items c.room.invariant.more
      (c.push_reserved.ensures.items ∙ ap (λ bs. bs ++ c.free.result ∷ []) c.room_for_one.ensures.items ∙ ap (λ b. c.room.bindings.items ++ b ∷ []) c.free.ensures);
  within = omega (arith, c.push_reserved.ensures.len, c.room_for_one.ensures.len);
}

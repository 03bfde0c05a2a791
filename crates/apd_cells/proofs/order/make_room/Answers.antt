use Rattle.apd_cells.proofs.Ordered.{more_none, more_one}
use Rattle.apd_cells.proofs.order.make_room.Goals as goal

pub room-init : goal.room-init
room-init c = more_none c.args.places.now.items

pub room-preserved : goal.room-preserved
room-preserved c = more_one c.args.places.now.items c.room.places.items c.push.new.self.items c.room.invariant c.in_ok-push.ensures.items

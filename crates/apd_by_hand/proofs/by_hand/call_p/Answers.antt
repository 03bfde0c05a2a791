use Rattle.apd_by_hand.proofs.Making.{may_call_p}
use Rattle.apd_by_hand.proofs.by_hand.call_p.Goals as goal

pub open_box-opened-requires-clause-may : goal.open_box-opened-requires-clause-may
open_box-opened-requires-clause-may c = rw (c.requires, c.in_ok-atom.ensures) may_call_p

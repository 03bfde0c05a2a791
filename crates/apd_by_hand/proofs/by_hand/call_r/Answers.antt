use Rattle.apd_by_hand.proofs.Making.{may_call_r}
use Rattle.apd_by_hand.proofs.by_hand.call_r.Goals as goal

pub open_box-opened-requires-clause-may : goal.open_box-opened-requires-clause-may
open_box-opened-requires-clause-may c = rw (c.in_ok-begin_query.ensures, c.in_ok-atom.ensures) may_call_r

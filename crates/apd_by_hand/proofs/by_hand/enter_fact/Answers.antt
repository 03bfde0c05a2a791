use Rattle.apd_by_hand.proofs.Making.{may_enter_fact}
use Rattle.apd_by_hand.proofs.by_hand.enter_fact.Goals as goal

pub add_point-requires-clause-may : goal.add_point-requires-clause-may
add_point-requires-clause-may c = rw (c.requires, c.in_ok-fact.ensures) may_enter_fact

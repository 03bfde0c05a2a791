use Rattle.apd_by_hand.proofs.Making.{may_solve_rule}
use Rattle.apd_by_hand.proofs.by_hand.solve_rule.Goals as goal

pub add_point-requires-clause-may : goal.add_point-requires-clause-may
add_point-requires-clause-may c = rw (c.requires, c.in_ok-rule.ensures) may_solve_rule

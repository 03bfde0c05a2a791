use Rattle.apd_by_hand.proofs.Replaying.{instance_of_tuple}
use Rattle.apd_by_hand.proofs.clauses.is_tuple_instance.Goals as goal

pub returns-in-Ok : goal.returns-in-Ok
returns-in-Ok c = λ yes. instance_of_tuple c.args.special.now c.args.general.now (rw (yes, c.in_ok-special.ensures, c.in_ok-general.ensures) at c.in-Ok.ensures)

use Rattle.apd_past.proofs.Following.{tuple_now}
use Rattle.apd_past.proofs.laws.tuples_are_the_same_there.Goals as goal

pub returns : goal.returns
returns c = tuple_now

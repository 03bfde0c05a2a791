use Rattle.apd_past.proofs.Keeping.{tuple_kept}
use Rattle.apd_past.proofs.laws.tuples_stay.Goals as goal

pub returns : goal.returns
returns c = tuple_kept

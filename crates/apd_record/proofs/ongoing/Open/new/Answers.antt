use Rattle.apd_record.proofs.Beginning.{beside_none}
use Rattle.apd_record.proofs.ongoing.Open.new.Goals as goal

pub invariant_of-result : goal.invariant_of-result
invariant_of-result c = rw (c.new.ensures, c.new-2.ensures) (beside_none _)

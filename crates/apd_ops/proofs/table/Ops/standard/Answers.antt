use Rattle.apd_ops.proofs.Ending.{standard_ends}
use Rattle.apd_ops.proofs.StandardTable.{standard_is_table}
use Rattle.apd_ops.proofs.table.Ops.standard.Goals as goal

pub invariant_of-result : goal.invariant_of-result
invariant_of-result c = rw (c.in_ok-prefixes.ensures, c.in_ok-infixes.ensures) (standard_is_table, standard_ends)

use Rattle.std.proofs.Common.{◌-◌, suc, length}
use Rattle.apd_index.specs.Columns.{HaveSameHeads}
use Rattle.apd_index.proofs.columns.grow.Given as goal

abbrev pub invariant-columns : goal.invariant-columns
invariant-columns l = HaveSameHeads l.fn.heads.items l.heads.items

abbrev pub decreases-columns : goal.decreases-columns
decreases-columns l = suc l.number - length l.heads.items

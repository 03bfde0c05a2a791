use Rattle.std.proofs.Common.{length, ◌-◌}
use Rattle.apd_divide.specs.Choice.{is_listed}
use Rattle.apd_divide.specs.Kept.{forest_from}
use Rattle.apd_divide.proofs.Cleared.{Clears}
use Rattle.apd_divide.proofs.walk.clear_listed.Given as goal

abbrev pub invariant-rows : goal.invariant-rows
invariant-rows l = Clears (is_listed l.preds) (forest_from l.fn.rows) l.rows l.at

abbrev pub decreases-rows : goal.decreases-rows
decreases-rows l = length l.rows - l.at

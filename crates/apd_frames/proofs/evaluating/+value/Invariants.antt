use Rattle.std.proofs.Common.{◌+◌, ◌*◌}
use Rattle.apd_frames.proofs.evaluating.+value.Given as goal

abbrev pub decreases-value_within : goal.decreases-value_within
decreases-value_within l = 2 * l.levels

abbrev pub decreases-value_below : goal.decreases-value_below
decreases-value_below l = 2 * l.levels + 1

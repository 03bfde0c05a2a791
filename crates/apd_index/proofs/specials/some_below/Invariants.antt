use Rattle.std.proofs.Common.{◌≡◌, ◌<◌, ◌-◌, ℕ, false, length}
use Rattle.apd_index.specs.Retrieval.{is_left_below}
use Rattle.apd_index.proofs.specials.some_below.Given as goal

abbrev pub invariant-places : goal.invariant-places
invariant-places l = (k : ℕ) → k < l.place → is_left_below l.atoms l.row l.atom k ≡ false

abbrev pub decreases-places : goal.decreases-places
decreases-places l = length l.atoms - l.place

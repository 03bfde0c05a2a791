use Rattle.std.proofs.Common.{ℕ, length}
use Rattle.apd_cells.specs.Known.{AreRecent}
use Rattle.apd_cells.specs.Stored.{Stored}
use Rattle.apd_cells.proofs.known.forget_recent.Given as goal

abbrev pub invariant-known : goal.invariant-known
invariant-known l = record {
  right : (s : Stored) (n : ℕ) → AreRecent s n l.fn.recent → AreRecent s n l.recent;
}

abbrev pub decreases-known : goal.decreases-known
decreases-known l = length l.recent

use Rattle.std.proofs.Common.{ℕ, length}
use Rattle.apd_cells.specs.Known.{AreKnown}
use Rattle.apd_cells.specs.Stored.{Stored}
use Rattle.apd_cells.proofs.known.forget_since.Given as goal

abbrev pub invariant-known : goal.invariant-known
invariant-known l = record {
  right : (s : Stored) (n a : ℕ) → AreKnown s n a l.fn.known → AreKnown s n a l.known;
}

abbrev pub decreases-known : goal.decreases-known
decreases-known l = length l.known

use Rattle.apd_index.specs.Spots.{AreSpots}
use Rattle.apd_index.proofs.sharing.spots_of.Given as goal

abbrev pub invariant-symbols : goal.invariant-symbols
invariant-symbols l = AreSpots l.atom l.spots.items

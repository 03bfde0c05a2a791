use Rattle.std.specs.Prelude.{IfSome}
use Rattle.apd_index.specs.Spots.{StandsIn}
use Rattle.apd_index.proofs.sharing.rarest.Given as goal

abbrev pub invariant-spots : goal.invariant-spots
invariant-spots l = IfSome l.rarest (StandsIn l.spots)

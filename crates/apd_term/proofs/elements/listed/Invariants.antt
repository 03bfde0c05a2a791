use Rattle.std.proofs.Common.{length, ◌-◌}
use Rattle.apd_term.proofs.Listing.{Listing}
use Rattle.apd_term.proofs.elements.listed.Given as goal

abbrev pub invariant-cells : goal.invariant-cells
invariant-cells l = Listing l.list l.symbols l.elements l.at

abbrev pub decreases-cells : goal.decreases-cells
decreases-cells l = length l.symbols - l.at

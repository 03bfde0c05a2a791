use Rattle.std.proofs.Common.{List, subst}
use Rattle.apd_index.specs.Spots.{StandsIn}
use Rattle.apd_index.specs.declared.sharing.SymbolSpot.{SymbolSpot}
use Rattle.apd_index.proofs.Spotted.{some-leaves}
use Rattle.apd_index.proofs.sharing.alike.Goals as goal

pub spots-init : goal.spots-init
spots-init c = λ k a f. c.in_ok-row.ensures k a (some-leaves c.rarest.result c.args.nodes.now k (λ s i. f s (c.in_ok-spots.ensures s (subst (λ (ss : List SymbolSpot). StandsIn ss s) c.as_slice.ensures.value i))) c.rarest.ensures)

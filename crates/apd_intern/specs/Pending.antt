-- Arguments that are still to be spelled.
use Rattle.std.specs.Prelude.{ℕ, ◌<◌, List}
use Rattle.std.specs.List.{flat_map, AllByRecursion}
use Rattle.apd_intern.specs.declared.node.ArgumentsLink.{ArgumentsLink}
use Rattle.apd_intern.specs.declared.spelling.PendingArguments.{PendingArguments}
use Rattle.apd_intern.specs.Nodes.{rest_at, IsRest}

-- their places in order
abbrev pub places_left : List ArgumentsLink → List PendingArguments → List ℕ
places_left links pending = flat_map (λ (p : PendingArguments). rest_at links p.count p.at) pending

abbrev pub IsPending : List ArgumentsLink → List PendingArguments → Type 0
IsPending links pending = AllByRecursion (λ (p : PendingArguments). (0 < p.count) × IsRest links p.count p.at) pending

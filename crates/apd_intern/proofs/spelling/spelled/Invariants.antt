use Rattle.std.proofs.Common.{◌≡◌, ◌<◌, ◌++◌, length, map, reverse}
use Rattle.std.specs.Prelude.{All}
use Rattle.std.specs.List.{flat_map}
use Rattle.apd_term.specs.Term.{spell}
use Rattle.apd_intern.specs.Nodes.{decoded, term_at}
use Rattle.apd_intern.specs.Pending.{IsPending, places_left}
use Rattle.apd_intern.proofs.spelling.spelled.Given as goal

abbrev pub invariant-places : goal.invariant-places
invariant-places l =
    record {
      pending : IsPending l.links (reverse l.pending.items);
      there : All (λ p. p < length l.nodes) (places_left l.links (reverse l.pending.items));
      spelled : l.symbols ++ flat_map spell (map (term_at (decoded l.links l.nodes)) (places_left l.links (reverse l.pending.items))) ≡ spell (term_at (decoded l.links l.nodes) l.place);
    }

abbrev pub decreases-places : goal.decreases-places
decreases-places l = length (flat_map spell (map (term_at (decoded l.links l.nodes)) (places_left l.links (reverse l.pending.items))))

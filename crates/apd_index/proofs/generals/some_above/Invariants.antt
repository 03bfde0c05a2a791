use Rattle.std.proofs.Common.{ℕ, ◌≡◌, drop}
use Rattle.std.specs.Prelude.{slice_get}
use Rattle.std.specs.List.{list_any}
use Rattle.apd_index.specs.Retrieval.{is_above}
use Rattle.apd_index.proofs.generals.some_above.Given as goal

abbrev pub invariant-places : goal.invariant-places
invariant-places l =
    list_any (λ (k : ℕ). is_above l.atom (slice_get l.atoms k)) l.places ≡ list_any (λ (k : ℕ). is_above l.atom (slice_get l.atoms k)) (drop l.place-index l.places)

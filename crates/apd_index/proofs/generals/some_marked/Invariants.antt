use Rattle.std.proofs.Common.{ℕ, ◌≡◌, drop}
use Rattle.std.specs.Prelude.{slice_get}
use Rattle.std.specs.List.{list_any}
use Rattle.apd_marks.specs.Places.{places_at}
use Rattle.apd_marks.specs.Positions.{all_marks}
use Rattle.apd_index.specs.Retrieval.{is_above}
use Rattle.apd_index.proofs.generals.some_marked.Given as goal

abbrev pub invariant-marks : goal.invariant-marks
invariant-marks l =
    list_any (λ (m : ℕ). list_any (λ (k : ℕ). is_above l.atom (slice_get l.atoms k)) (places_at l.places m)) (all_marks l.atom)
    ≡ list_any (λ (m : ℕ). list_any (λ (k : ℕ). is_above l.atom (slice_get l.atoms k)) (places_at l.places m)) (drop l.mark-index l.mark-items)

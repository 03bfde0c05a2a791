-- Lists of texts that grow at their end.
use Rattle.std.specs.Prelude.{◌≡◌, ℕ, ◌≤◌, List, ◌++◌, length}

-- more texts or none stand at the end
abbrev pub Grown : List (List ℕ) → List (List ℕ) → Type 0
Grown old new = (added : List (List ℕ)) × (new ≡ old ++ added)

-- at most so many more texts stand at the end
abbrev pub GrowsBy : ℕ → List (List ℕ) → List (List ℕ) → Type 0
GrowsBy most old new = (added : List (List ℕ)) × (new ≡ old ++ added) × (length added ≤ most)

-- How many names there are while texts are read.
use Rattle.std.specs.Prelude.{ℕ, ◌≤◌, List, length}
use Rattle.apd_claims.specs.declared.reading.TheConstants.{MOST_READ_NAMES}

-- where there were few names, there are few
abbrev pub KeepsFew : List (List ℕ) → List (List ℕ) → Type 0
KeepsFew names later = length names ≤ MOST_READ_NAMES → length later ≤ MOST_READ_NAMES

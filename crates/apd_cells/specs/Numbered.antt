-- What is known of the numbers of a store's variables.
use Rattle.std.specs.Prelude.{◌≡◌, ℕ, ◌<◌, ◌≤◌, length}
use Rattle.apd_term.specs.Term.{variable, Occurs}
use Rattle.apd_cells.specs.Stored.{Stored}
use Rattle.apd_cells.specs.Store.{meaning, term_at}

-- the variables of all terms are below the number of variables and free, and those from there on are free too
pub record IsNumbered (s : Stored) : Type 0 where
  pub below : (c v : ℕ) → c < length s.cells → Occurs v (term_at s c) → v < s.variables
  pub settled : (c v : ℕ) → c < length s.cells → Occurs v (term_at s c) → meaning s.cells s.trail v ≡ variable v
  pub unused : (v : ℕ) → s.variables ≤ v → meaning s.cells s.trail v ≡ variable v

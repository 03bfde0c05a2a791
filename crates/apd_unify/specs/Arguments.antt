-- The cells of a term's arguments.
use Rattle.std.specs.Prelude.{◌≡◌, ℕ, ◌<◌, [], ◌∷◌, length}
use Rattle.apd_term.specs.Term.{arguments}
use Rattle.apd_cells.specs.Stored.{Stored}
use Rattle.apd_cells.specs.Store.{term_at}

-- the term at cell c has one argument, that at cell a
pub record HasOne (s : Stored) (c a : ℕ) : Type 0 where
  pub inside : a < length s.cells
  pub is : arguments (term_at s c) ≡ term_at s a ∷ []

-- the term at cell c has two arguments, those at cells a and b
pub record HasTwo (s : Stored) (c a b : ℕ) : Type 0 where
  pub first : a < length s.cells
  pub second : b < length s.cells
  pub are : arguments (term_at s c) ≡ term_at s a ∷ term_at s b ∷ []

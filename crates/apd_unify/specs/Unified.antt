-- What a unification of the terms at two cells does to a store.
use Rattle.std.specs.Prelude.{◌≡◌, ℕ, Bool, true, false, List}
use Rattle.apd_term.specs.Term.{Term, apply}
use Rattle.apd_term.specs.Substitution.{term_for}
use Rattle.apd_unify.specs.Unifier.{IsUnifier, HasNoUnifier}
use Rattle.apd_cells.specs.Stored.{Stored}
use Rattle.apd_cells.specs.Store.{meaning, term_at}

-- a most general unifier of the terms at two cells was applied to what the variables mean, and so to the terms of all
-- cells
pub record IsUnified (old new : Stored) (a b : ℕ) : Type 0 where
  pub pairs : List (ℕ × Term)
  pub unifier : IsUnifier (term_at old a) (term_at old b) pairs
  pub means : (v : ℕ) → meaning new.cells new.trail v ≡ apply (term_for pairs) (meaning old.cells old.trail v)
  pub made : (c : ℕ) → term_at new c ≡ apply (term_for pairs) (term_at old c)

-- the answer to a unification: whether the terms at two cells have a unifier, and what was done where they have
abbrev pub IsUnification : Bool → Stored → Stored → ℕ → ℕ → Type 0
IsUnification true old new a b = IsUnified old new a b
IsUnification false old new a b = HasNoUnifier (term_at old a) (term_at old b)

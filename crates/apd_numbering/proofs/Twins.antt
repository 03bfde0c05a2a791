-- What is read of one text under two lists of names: the same, but for the numbers of its names.
use Rattle.std.specs.Prelude.{◌≡◌, ℕ, ℤ, List}
use Rattle.apd_term.specs.Names.{number_of}
use Rattle.apd_term.specs.Term.{Term, Terms, variable, integer, compound, none, more}
use Rattle.apd_term.specs.declared.term.NameId.{NameId}

-- the numbers are those of one text; a text that isn't among the names has their count as number
abbrev pub AreOfOneText : List (List ℕ) → List (List ℕ) → ℕ → ℕ → Type 0
AreOfOneText names others f g = (v : List ℕ) × (f ≡ number_of names v) × (g ≡ number_of others v)

-- the terms differ in such numbers alone
mutual
  pub data AreTwins (one : ℕ → ℕ → Type 0) : Term → Term → Type 0 where
    variable_twin : (v : ℕ) → AreTwins one (variable v) (variable v)
    integer_twin : (i : ℤ) → AreTwins one (integer i) (integer i)
    compound_twin : (f g : NameId) {ts us : Terms} → one f.0 g.0 → AllTwins one ts us → AreTwins one (compound f ts) (compound g us)

  pub data AllTwins (one : ℕ → ℕ → Type 0) : Terms → Terms → Type 0 where
    none_twin : AllTwins one none none
    more_twin : {t u : Term} {ts us : Terms} → AreTwins one t u → AllTwins one ts us → AllTwins one (more t ts) (more u us)

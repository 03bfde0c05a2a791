-- Subterms, and how lists of terms grow by them.
use Rattle.std.specs.Prelude.{◌≡◌, ◌⊎◌, ℕ, ◌<◌, List, ◌++◌, Some, slice_get}
use Rattle.std.specs.List.{AllByRecursion}
use Rattle.apd_term.specs.Term.{Term, Terms, variable, integer, compound, none, more, arguments}

-- s is t, or a subterm of an argument of t
abbrev mutual
  pub IsSubterm : Term → Term → Type 0
  IsSubterm s (variable v) = s ≡ variable v
  IsSubterm s (integer i) = s ≡ integer i
  IsSubterm s (compound f ts) = (s ≡ compound f ts) ⊎ IsSubtermOfSome s ts

  pub IsSubtermOfSome : Term → Terms → Type 0
  IsSubtermOfSome s none = ⊥
  IsSubtermOfSome s (more t ts) = IsSubterm s t ⊎ IsSubtermOfSome s ts

-- new is old and some subterms of t behind it
abbrev pub GrowsBySubterms : Term → List Term → List Term → Type 0
GrowsBySubterms t old new = (added : List Term) × (old ++ added ≡ new) × AllByRecursion (λ s. IsSubterm s t) added

abbrev pub StandsBefore : List Term → ℕ → Term → Type 0
StandsBefore terms i t = (j : ℕ) × (j < i) × (slice_get terms j ≡ Some t)

-- each argument of a term stands before it
abbrev pub HaveEarlierArguments : List Term → Type 0
HaveEarlierArguments terms = (i : ℕ) (t : Term) → slice_get terms i ≡ Some t → AllByRecursion (StandsBefore terms i) (arguments t)

-- Places in a list by marks of what stands there.
use Rattle.std.specs.Prelude.{ℕ, ◌≡◌, ◌+◌, Bool, List, [], ◌∷◌, ◌++◌, unwrap_or, if◌then◌else◌, nat_eq}
use Rattle.std.specs.declared.hash.FoldHasher.{FoldHasher}
use Rattle.std.specs.declared.hash.BuildHasherDefault.{BuildHasherDefault}
use Rattle.indexmap.specs.IndexMap.{get, IndexMap}

abbrev pub Index : Type 0
Index = IndexMap ℕ (List ℕ) (BuildHasherDefault FoldHasher)

-- the places that the index has for a mark
abbrev pub places_at : Index → ℕ → List ℕ
places_at m mark = unwrap_or (get nat_eq m mark) []

-- the new index has one more place for the mark
abbrev pub Notes : Index → ℕ → ℕ → Index → Type 0
Notes old mark place new = (other : ℕ) → places_at new other ≡ (if nat_eq mark other then places_at old other ++ place ∷ [] else places_at old other)

abbrev pub HaveSamePlaces : Index → Index → Type 0
HaveSamePlaces old new = (mark : ℕ) → places_at new mark ≡ places_at old mark

-- the places of those that pass a test, in order, where the first of all has place n
abbrev pub places_where : {X : Type 0} → ℕ → (X → Bool) → List X → List ℕ
places_where n test [] = []
places_where n test (x ∷ xs) = if test x then n ∷ places_where (n + 1) test xs else places_where (n + 1) test xs

-- the places of those with a mark, where f gives the marks
abbrev pub places_of : {X : Type 0} → (X → ℕ) → ℕ → List X → List ℕ
places_of f mark xs = places_where 0 (λ x. nat_eq mark (f x)) xs

-- the index has the places of each mark's
abbrev pub IsIndexOf : {X : Type 0} → (X → ℕ) → List X → Index → Type 0
IsIndexOf f xs m = (mark : ℕ) → places_at m mark ≡ places_of f mark xs

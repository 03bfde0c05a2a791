-- Subterms with their positions (path indexing, Stickel 1989), and digests, of which equal terms have the same.
use Rattle.std.specs.Prelude.{ℕ, ◌≡◌, ◌⊎◌, ◌++◌, List, [], ◌∷◌, length, map, reverse}
use Rattle.std.specs.List.{fold}
use Rattle.apd_term.specs.Term.{Term, Terms, variable, integer, compound, none, more, list_of}
use Rattle.apd_term.specs.declared.term.Sym.{Sym}
use Rattle.apd_term.specs.declared.term.Sym.TheVariants.{Var, Int, Fun}
use Rattle.apd_marks.specs.Mixing.{mixed}
use Rattle.apd_marks.specs.Positions.{top}
use Rattle.apd_marks.specs.declared.positions.Parent.{Parent}

-- the symbol that a term begins with
abbrev pub root : Term → Sym
root (variable v) = Var v
root (integer i) = Int i
root (compound f ts) = Fun f (length (list_of ts))

-- a subterm, and its position: the mark of the symbol above it, and which of the terms below that it is, from the end
pub record Subterm : Type 0 where
  pub position : Parent
  pub term : Term

abbrev pub position : ℕ → ℕ → Parent
position mark n = record { mark = mark; left = n }

-- what the mark of a symbol at this position begins with
abbrev pub position_below : ℕ → ℕ → ℕ
position_below mark n = mixed mark (Var n)

-- the subterms in prefix order, with the term itself; n is where it stands, from the end
abbrev mutual
  pub subterms_at : ℕ → ℕ → Term → List Subterm
  subterms_at mark n (variable v) = record { position = position mark n; term = variable v } ∷ []
  subterms_at mark n (integer i) = record { position = position mark n; term = integer i } ∷ []
  subterms_at mark n (compound f ts) =
      record { position = position mark n; term = compound f ts } ∷ subterms_below (mixed (position_below mark n) (Fun f (length (list_of ts)))) ts

  pub subterms_below : ℕ → Terms → List Subterm
  subterms_below mark none = []
  subterms_below mark (more t ts) = subterms_at mark (length (list_of (more t ts))) t ++ subterms_below mark ts

abbrev pub subterms : Term → List Subterm
subterms t = subterms_below top (more t none)

-- the term is one at this position
abbrev pub Stands : List Subterm → Parent → Term → Type 0
Stands [] p t = ⊥
Stands (s ∷ ss) p t = ((s.position ≡ p) × (s.term ≡ t)) ⊎ Stands ss p t

abbrev pub IsAt : Term → Parent → Term → Type 0
IsAt x p t = Stands (subterms x) p t

abbrev pub positions : Term → List Parent
positions x = map (λ (s : Subterm). s.position) (subterms x)

-- digests mixed into a mark
abbrev pub joined : ℕ → List ℕ → ℕ
joined mark digests = fold (λ (m d : ℕ). mixed m (Var d)) mark digests

-- a digest is mixed from the symbol and the digests of the arguments, from the last one; these tell how many they are
abbrev mutual
  pub digest : Term → ℕ
  digest (variable v) = mixed 1 (Var v)
  digest (integer i) = mixed 1 (Int i)
  digest (compound f ts) = joined (mixed 1 (Fun f 0)) (reverse (digests_of ts))

  pub digests_of : Terms → List ℕ
  digests_of none = []
  digests_of (more t ts) = digest t ∷ digests_of ts

abbrev pub digests : Term → List ℕ
digests x = map (λ (s : Subterm). digest s.term) (subterms x)

-- the symbol without the number of its arguments
abbrev pub bare : Sym → Sym
bare (Var v) = Var v
bare (Int i) = Int i
bare (Fun f n) = Fun f 0

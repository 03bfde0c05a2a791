-- Symbols of atoms, each with the symbol above it, and what is noted of an atom for them.
use Rattle.std.specs.Prelude.{ℕ, ◌≡◌, ◌⊎◌, List, Some, slice_get}
use Rattle.apd_term.specs.Term.{Term, IsAmong}
use Rattle.apd_marks.specs.Positions.{any_term, noted}
use Rattle.apd_marks.specs.declared.positions.Parent.{Parent}
use Rattle.apd_index.specs.Nodes.{IsFounder, noted_at}
use Rattle.apd_index.specs.Subterms.{IsAt, root}
use Rattle.apd_index.specs.declared.nodes.Nodes.{Nodes}
use Rattle.apd_index.specs.declared.sharing.SymbolSpot.{SymbolSpot}

-- the spot is that of a symbol of the atom; a variable has none
abbrev pub IsSpot : Term → SymbolSpot → Type 0
IsSpot a s = (p : Parent) × (t : Term) × IsAt a p t × (p.mark ≡ s.parent) × IsAmong (noted p (root t)) s.mark

-- the spot is one of these
abbrev pub StandsIn : List SymbolSpot → SymbolSpot → Type 0
StandsIn spots s = (i : ℕ) × (slice_get spots i ≡ Some s)

-- these are spots of the atom
abbrev pub AreSpots : Term → List SymbolSpot → Type 0
AreSpots a spots = (s : SymbolSpot) → StandsIn spots s → IsSpot a s

-- the spot leaves the place: that is noted for the symbol, or it is the founder of the one above
abbrev pub Leaves : Nodes → ℕ → SymbolSpot → Type 0
Leaves nodes k s = IsAmong (noted_at nodes s.mark) k ⊎ IsFounder nodes s.parent k

-- each spot of the atom leaves the place
abbrev pub AllLeave : Nodes → ℕ → Term → Type 0
AllLeave nodes k x = (s : SymbolSpot) → IsSpot x s → Leaves nodes k s

-- That is so, and the place is noted for the mark that all terms have. So the spots of whatever the atom is an instance of leave it too.
abbrev pub IsNotedAbove : Nodes → ℕ → Term → Type 0
IsNotedAbove nodes k x = AllLeave nodes k x × IsAmong (noted_at nodes any_term) k

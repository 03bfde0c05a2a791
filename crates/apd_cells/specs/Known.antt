-- Extents of terms that are known without a count, and how long they stay right.
use Rattle.std.specs.Prelude.{◌≡◌, ℕ, ◌<◌, ◌≤◌, List, [], ◌∷◌, length}
use Rattle.apd_term.specs.declared.term.Sym.{Sym}
use Rattle.apd_term.specs.declared.term.Sym.TheVariants.{Var, Int, Fun}
use Rattle.apd_term.specs.Term.{Occurs, size}
use Rattle.apd_cells.specs.declared.known.Extent.{Extent}
use Rattle.apd_cells.specs.declared.known.KnownExtent.{KnownExtent}
use Rattle.apd_cells.specs.declared.extents.Extents.{Extents}
use Rattle.apd_cells.specs.Stored.{Stored}
use Rattle.apd_cells.specs.Store.{term_at, at_mark}

-- the size of the term at a cell, and a number above its variables
pub record HasExtent (s : Stored) (c : ℕ) (e : Extent) : Type 0 where
  pub inside : c < length s.cells
  pub long : e.size ≡ size (term_at s c)
  pub below : (v : ℕ) → Occurs v (term_at s c) → v < e.above

-- the extent was right at each mark since it was found
abbrev pub IsKnown : Stored → KnownExtent → Type 0
IsKnown s k = (mark : ℕ) → k.since ≤ mark → mark ≤ length s.trail → HasExtent (at_mark mark s) k.cell k.extent

-- what is known, the newest first: each was found after the next and has no smaller number above its variables; the
-- newest was found at mark n or before, and its number is at most a
abbrev pub AreKnown : Stored → ℕ → ℕ → List KnownExtent → Type 0
AreKnown s n a [] = Unit {0}
AreKnown s n a (k ∷ ks) = IsKnown s k × (k.since ≤ n) × (k.extent.above ≤ a) × AreKnown s k.since k.extent.above ks

-- what is known of terms without variables, and of the others
pub record AreSized (s : Stored) (ground_terms open_terms : List KnownExtent) : Type 0 where
  pub of_ground : AreKnown s (length s.trail) 0 ground_terms
  pub most : ℕ
  pub of_open : AreKnown s (length s.trail) most open_terms

-- an integer or an atom: a binding to it changes no size, and brings no variable
abbrev pub IsConstant : Sym → Type 0
IsConstant (Var v) = ⊥
IsConstant (Int i) = Unit {0}
IsConstant (Fun f n) = n ≡ 0

-- what was measured lately, the newest first: each was found after the next, and the newest at mark n or before
abbrev pub AreRecent : Stored → ℕ → List KnownExtent → Type 0
AreRecent s n [] = Unit {0}
AreRecent s n (k ∷ ks) = IsKnown s k × (k.since ≤ n) × AreRecent s k.since ks

-- all that is known of a store's terms
pub record IsSized (s : Stored) (k : Extents) : Type 0 where
  pub kept : AreSized s k.ground_terms k.open_terms
  pub lately : AreRecent s (length s.trail) k.recent

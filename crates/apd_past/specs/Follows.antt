-- A journal that follows a store: its bindings at present are those of the store.
use Rattle.std.specs.Prelude.{◌≡◌, ℕ, ◌≤◌, List, [], ◌∷◌, length}
use Rattle.apd_cells.specs.declared.heap.TrailNote.{TrailNote}
use Rattle.apd_cells.specs.declared.heap.TrailNote.TheVariants.{Loaded, Bound}
use Rattle.apd_cells.specs.Stored.{Stored}
use Rattle.apd_cells.specs.Store.{at_mark, IsSound}
use Rattle.apd_past.specs.Done.{Done}
use Rattle.apd_past.specs.History.{bindings_of, IsRight}

-- a trail without the notes of loads
abbrev pub bindings_in : List TrailNote → List TrailNote
bindings_in [] = []
bindings_in (Loaded c n ∷ notes) = bindings_in notes
bindings_in (Bound v c ∷ notes) = Bound v c ∷ bindings_in notes

-- the bindings at present are those of the store
abbrev pub Follows : Done → Stored → Type 0
Follows d s = bindings_of d ≡ bindings_in s.trail

-- it followed the store to where its trail had k notes, and each of its bindings was right among the store's cells
pub record MayFollow (d : Done) (s : Stored) (k : ℕ) : Type 0 where
  pub sound : IsSound s
  pub there : k ≤ length s.trail
  pub follows : Follows d (at_mark k s)
  pub room : s.variables ≤ d.variables
  pub right : IsRight s.cells d.variables d.spans

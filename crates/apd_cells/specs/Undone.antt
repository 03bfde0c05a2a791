-- What undoing leaves where a front of the cells is kept, and stores that differ in cells to which nothing leads.
use Rattle.std.specs.Prelude.{◌≡◌, ℕ, ◌-◌, ◌≤◌, ◌==◌, List, [], ◌∷◌, ◌++◌, length, take, min, max, if◌then◌else◌}
use Rattle.apd_term.specs.declared.term.Sym.{Sym}
use Rattle.apd_cells.specs.declared.front.Front.{Front}
use Rattle.apd_cells.specs.declared.heap.TrailNote.{TrailNote}
use Rattle.apd_cells.specs.declared.heap.TrailNote.TheVariants.{Loaded, Bound}
use Rattle.apd_cells.specs.Stored.{Stored}
use Rattle.apd_cells.specs.Store.{HasCells}

-- a front of no cells
abbrev pub no_front : Front
no_front = record { cells = 0; variables = 0 }

-- a front of the cells is whole terms, whose variables are below its number
abbrev pub IsFront : Front → List Sym → Type 0
IsFront kept cells = HasCells (take kept.cells cells) kept.variables

-- the store without its newest note: what it says is taken back, but for the front that is kept; nothing is added where the
-- front tells of more than there is
abbrev pub without_note : Front → List Sym → ℕ → List TrailNote → Stored
without_note kept cells n [] = record { cells = cells; variables = n; trail = [] }
without_note kept cells n (Loaded c m ∷ notes) =
    record { cells = take (max c kept.cells) cells; variables = min n (max m kept.variables); trail = notes }
without_note kept cells n (Bound v c ∷ notes) = record { cells = cells; variables = n; trail = notes }

-- the store without so many of its newest notes
abbrev pub without_notes : Front → List Sym → ℕ → List TrailNote → ℕ → Stored
without_notes kept cells n [] k = record { cells = cells; variables = n; trail = [] }
without_notes kept cells n (Loaded c m ∷ notes) k =
    if k == 0 then record { cells = cells; variables = n; trail = Loaded c m ∷ notes }
    else without_notes kept (take (max c kept.cells) cells) (min n (max m kept.variables)) notes (k - 1)
without_notes kept cells n (Bound v c ∷ notes) k =
    if k == 0 then record { cells = cells; variables = n; trail = Bound v c ∷ notes } else without_notes kept cells n notes (k - 1)

-- what undoing leaves of the store, back to when its trail had k notes
abbrev pub undone : Front → ℕ → Stored → Stored
undone kept k s = without_notes kept s.cells s.variables s.trail (length s.trail - k)

-- the later store has more cells and variables, and the same was done to it
pub record HasMoreCells (earlier later : Stored) : Type 0 where
  pub more : List Sym
  pub cells : later.cells ≡ earlier.cells ++ more
  pub variables : earlier.variables ≤ later.variables
  pub trail : later.trail ≡ earlier.trail

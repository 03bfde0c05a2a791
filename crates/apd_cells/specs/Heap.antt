-- How a store is kept: the cells, an array of the bindings, and the trail.
use Rattle.std.specs.Prelude.{◌≡◌, ℕ, ◌+◌, ◌<◌, ◌≤◌, List, [], ◌∷◌, ◌++◌, length, get_or, replicate, take}
use Rattle.apd_term.specs.declared.term.Sym.{Sym}
use Rattle.apd_term.specs.declared.term.Sym.TheVariants.{Var, Int, Fun}
use Rattle.apd_cells.specs.declared.heap.TrailNote.{TrailNote}
use Rattle.apd_cells.specs.declared.heap.Binding.{Binding}
use Rattle.apd_cells.specs.declared.heap.Binding.TheVariants.{Free}
use Rattle.apd_cells.specs.Store.{IsStore, HasCells, written, binding_of}
use Rattle.apd_cells.specs.declared.heap.TrailNote.TheVariants.{Loaded, Bound}
use Rattle.apd_cells.specs.declared.front.Front.{Front}
use Rattle.apd_term.specs.Term.{Occurs}

-- the array has the binding of each variable
pub record IsHeap (cells : List Sym) (bindings : List Binding) (notes : List TrailNote) : Type 0 where
  pub kept : IsStore cells (length bindings) notes
  pub agrees : (v : ℕ) → get_or bindings v Free ≡ binding_of notes v

-- only free variables were added
abbrev pub HasMore : List Binding → List Binding → Type 0
HasMore old new = (k : ℕ) × (new ≡ old ++ replicate k Free)

-- a symbol is a variable
abbrev pub IsVariable : Sym → Type 0
IsVariable x = (v : ℕ) × (x ≡ Var v)

-- a symbol with its variable raised by base
abbrev pub raised : ℕ → Sym → Sym
raised base (Var v) = Var (base + v)
raised base (Int i) = Int i
raised base (Fun f n) = Fun f n

-- the variables of every binding's term are below the number
abbrev pub AllTouched : List Sym → List TrailNote → ℕ → Type 0
AllTouched cells [] k = Unit {0}
AllTouched cells (Loaded c n ∷ notes) k = AllTouched (take c cells) notes k
AllTouched cells (Bound v c ∷ notes) k = ((u : ℕ) → Occurs u (written cells c) → u < k) × AllTouched cells notes k

-- what is known of new variables: none from `touched` on stands in a binding's term, and none from the front's number on in the front
pub record IsMarked (cells : List Sym) (notes : List TrailNote) (touched : ℕ) (front : Front) : Type 0 where
  pub bindings : AllTouched cells notes touched
  pub within : front.cells ≤ length cells
  pub whole : HasCells (take front.cells cells) front.variables

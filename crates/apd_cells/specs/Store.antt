-- What a store means: each cell begins a term, and the bindings of the trail make it into another.
use Rattle.std.specs.Prelude.{◌≡◌, ℕ, ◌+◌, ◌-◌, ◌<◌, ◌≤◌, ◌==◌, Option, Some, None, List, [], ◌∷◌, ◌++◌, length, take, drop, max, get_or, if◌then◌else◌}
use Rattle.std.specs.List.{flat_map}
use Rattle.apd_term.specs.declared.term.Sym.{Sym}
use Rattle.apd_term.specs.declared.term.Sym.TheVariants.{Var}
use Rattle.apd_term.specs.Term.{Term, variable, apply, spell, first_of, read_all, IsTerms, IsAmong, Occurs, variables, size}
use Rattle.apd_term.specs.Spelling.{variable_in}
use Rattle.apd_term.specs.Canonical.{shifted}
use Rattle.apd_term.specs.Substitution.{term_for, single}
use Rattle.apd_cells.specs.Stored.{Stored}
use Rattle.apd_cells.specs.declared.heap.TrailNote.{TrailNote}
use Rattle.apd_cells.specs.declared.heap.TrailNote.TheVariants.{Loaded, Bound}
use Rattle.apd_cells.specs.declared.heap.Binding.{Binding}
use Rattle.apd_cells.specs.declared.heap.Binding.TheVariants.{Free, At}

-- the term whose symbols begin at a cell, without bindings
abbrev pub written : List Sym → ℕ → Term
written cells c = first_of (read_all (drop c cells))

-- what the bindings of the trail make of each variable; each binding is done on all that is before it, and so the
-- result is idempotent
abbrev pub meaning : List Sym → List TrailNote → ℕ → Term
meaning cells [] v = variable v
meaning cells (Loaded c n ∷ notes) v = meaning (take c cells) notes v
meaning cells (Bound w c ∷ notes) v = apply (term_for (single w (apply (meaning cells notes) (written cells c)))) (meaning cells notes v)

-- a term with all bindings applied
abbrev pub under_bindings : Stored → Term → Term
under_bindings s t = apply (meaning s.cells s.trail) t

-- the term at a cell, with all bindings applied
abbrev pub term_at : Stored → ℕ → Term
term_at s c = under_bindings s (written s.cells c)

-- what a variable is bound to
abbrev pub binding_of : List TrailNote → ℕ → Binding
binding_of [] v = Free
binding_of (Loaded c n ∷ notes) v = binding_of notes v
binding_of (Bound w c ∷ notes) v = if w == v then At c else binding_of notes v

-- the cells are whole terms, and their variables have smaller numbers
pub record HasCells (cells : List Sym) (variables : ℕ) : Type 0 where
  pub whole : IsTerms cells
  pub below : (v : ℕ) → IsAmong (flat_map variable_in cells) v → v < variables

-- a free variable may be bound to the term at a cell: it doesn't occur there, and of two variables the greater is bound
pub record MayBind (cells : List Sym) (variables : ℕ) (notes : List TrailNote) (v c : ℕ) : Type 0 where
  pub inside : c < length cells
  pub below : v < variables
  pub free : binding_of notes v ≡ Free
  pub acyclic : ¬ Occurs v (apply (meaning cells notes) (written cells c))
  pub down : (w : ℕ) → get_or cells c (Var 0) ≡ Var w → w < v

-- every note of the trail was right when it was made
abbrev pub IsStore : List Sym → ℕ → List TrailNote → Type 0
IsStore cells n [] = HasCells cells n
IsStore cells n (Loaded c m ∷ notes) = HasCells cells n × ((c ≤ length cells) × ((m ≤ n) × IsStore (take c cells) m notes))
IsStore cells n (Bound v c ∷ notes) = MayBind cells n notes v c × IsStore cells n notes

-- the store before its newest note
abbrev pub before_note : List Sym → ℕ → List TrailNote → Stored
before_note cells n [] = record { cells = cells; variables = n; trail = [] }
before_note cells n (Loaded c m ∷ notes) = record { cells = take c cells; variables = m; trail = notes }
before_note cells n (Bound v c ∷ notes) = record { cells = cells; variables = n; trail = notes }

-- the store before so many of its newest notes
abbrev pub before_notes : List Sym → ℕ → List TrailNote → ℕ → Stored
before_notes cells n [] k = record { cells = cells; variables = n; trail = [] }
before_notes cells n (Loaded c m ∷ notes) k =
    if k == 0 then record { cells = cells; variables = n; trail = Loaded c m ∷ notes } else before_notes (take c cells) m notes (k - 1)
before_notes cells n (Bound v c ∷ notes) k =
    if k == 0 then record { cells = cells; variables = n; trail = Bound v c ∷ notes } else before_notes cells n notes (k - 1)

-- the store when its trail had so many notes
abbrev pub at_mark : ℕ → Stored → Stored
at_mark k s = before_notes s.cells s.variables s.trail (length s.trail - k)

-- the earlier store is what the later one was when the trail had as many notes
abbrev pub Keeps : Stored → Stored → Type 0
Keeps earlier later = (length earlier.trail ≤ length later.trail) × (at_mark (length earlier.trail) later ≡ earlier)

-- one more than the greatest of the numbers, and n where that is more
abbrev pub above : ℕ → List ℕ → ℕ
above n [] = n
above n (v ∷ vs) = above (max n (v + 1)) vs

-- the store with one more term, its variables raised by base
abbrev pub loaded : Stored → Term → ℕ → Stored
loaded s t base = record {
  cells = s.cells ++ spell (shifted base t);
  variables = above s.variables (variables (shifted base t));
  trail = Loaded (length s.cells) s.variables ∷ s.trail;
}

-- the store with more symbols behind the others, so many variables, and one note
abbrev pub with_symbols : Stored → List Sym → ℕ → Stored
with_symbols s xs n = record { cells = s.cells ++ xs; variables = n; trail = Loaded (length s.cells) s.variables ∷ s.trail }

-- the store where a variable is bound to a cell
abbrev pub bound : Stored → ℕ → ℕ → Stored
bound s v c = record { cells = s.cells; variables = s.variables; trail = Bound v c ∷ s.trail }

-- the size, if it is within the limit
abbrev pub SizeWithin : Term → ℕ → Option ℕ → Type 0
SizeWithin t limit None = limit < size t
SizeWithin t limit (Some n) = (n ≡ size t) × (n ≤ limit)

-- the symbol that is written at a cell
abbrev pub symbol_at : Stored → ℕ → Sym
symbol_at s c = get_or s.cells c (Var 0)

-- the symbol at a cell is no bound variable
abbrev pub IsEnd : Stored → ℕ → Type 0
IsEnd s c = (v : ℕ) → symbol_at s c ≡ Var v → binding_of s.trail v ≡ Free

-- a free variable is written at a cell
pub record IsFreeVariable (s : Stored) (v c : ℕ) : Type 0 where
  pub inside : c < length s.cells
  pub is : symbol_at s c ≡ Var v
  pub free : IsEnd s c

-- every note of the store's trail was right when it was made
abbrev pub IsSound : Stored → Type 0
IsSound s = IsStore s.cells s.variables s.trail

-- the variable that is written at a cell is written at the next one again
pub record IsTwin (s : Stored) (c : ℕ) : Type 0 where
  pub v : ℕ
  pub here : symbol_at s c ≡ Var v
  pub again : symbol_at s (c + 1) ≡ Var v

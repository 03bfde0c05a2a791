-- What a walk over terms has still to pass.
use Rattle.std.specs.Prelude.{◌≡◌, ◌⊎◌, ℕ, ◌<◌, ◌≤◌, Option, Some, None, List, [], ◌∷◌, ◌++◌, length, take, drop, map, get_or}
use Rattle.std.specs.List.{flat_map}
use Rattle.apd_term.specs.declared.term.Sym.{Sym}
use Rattle.apd_term.specs.declared.term.Sym.TheVariants.{Var}
use Rattle.apd_term.specs.Spelling.{variable_in}
use Rattle.apd_term.specs.Term.{Term, IsAmong, apply, spell, read_all}
use Rattle.apd_cells.specs.Stored.{Stored}
use Rattle.apd_cells.specs.declared.heap.Binding.TheVariants.{Free}
use Rattle.apd_cells.specs.Heap.{IsVariable}
use Rattle.apd_cells.specs.Store.{binding_of, meaning, term_at}
use Rattle.apd_cells.specs.declared.walk.Run.{Run}
use Rattle.apd_cells.specs.declared.walk.Walk.{Walk}

-- the terms that are written from a cell on, so many of them
abbrev pub run_of : List Sym → ℕ → ℕ → List Term
run_of cells c n = take n (read_all (drop c cells))

-- so many terms are written there
pub record IsRun (cells : List Sym) (c n : ℕ) : Type 0 where
  pub inside : c ≤ length cells
  pub enough : n ≤ length (read_all (drop c cells))

abbrev pub AreRuns : List Sym → List Run → Type 0
AreRuns cells [] = Unit {0}
AreRuns cells (r ∷ rs) = IsRun cells r.at r.left × AreRuns cells rs

-- the symbols of a run's terms, with all bindings applied
abbrev pub run_symbols : Stored → ℕ → ℕ → List Sym
run_symbols s c n = flat_map spell (map (apply (meaning s.cells s.trail)) (run_of s.cells c n))

-- the symbols of all runs, the newest first
abbrev pub runs_symbols : Stored → List Run → List Sym
runs_symbols s [] = []
runs_symbols s (r ∷ rs) = run_symbols s r.at r.left ++ runs_symbols s rs

-- a walk's runs are in the cells
pub record IsWalk (cells : List Sym) (w : Walk) : Type 0 where
  pub here : IsRun cells w.at w.left
  pub rest : AreRuns cells w.rest

-- the symbols that a walk has still to pass
abbrev pub walk_symbols : Stored → Walk → List Sym
walk_symbols s w = run_symbols s w.at w.left ++ runs_symbols s w.rest

-- what a walk passes: the first symbol, or none where none is left
abbrev pub Passes : Option Sym → List Sym → List Sym → Type 0
Passes None before after = before ≡ []
Passes (Some x) before after = before ≡ x ∷ after

-- the waiting runs in place of those that are done: no symbol is left, or those of a run that isn't done
abbrev pub GoesTo : Run → List Run → Option Run → List Run → Type 0
GoesTo here old None new = (new ≡ []) × ((s : Stored) → runs_symbols s (here ∷ old) ≡ [])
GoesTo here old (Some r) new = (0 < r.left) × (((s : Stored) → runs_symbols s (here ∷ old) ≡ runs_symbols s (r ∷ new)) × ((cells : List Sym) → AreRuns cells (here ∷ old) → AreRuns cells (r ∷ new)))

-- a cell leads to another through variables that are bound, as far as they are
pub record Leads (s : Stored) (c at : ℕ) : Type 0 where
  pub inside : at < length s.cells
  pub same : term_at s at ≡ term_at s c
  pub end : (v : ℕ) → get_or s.cells at (Var 0) ≡ Var v → binding_of s.trail v ≡ Free
  pub start : (at ≡ c) ⊎ IsVariable (get_or s.cells c (Var 0))

-- the first symbol of the runs was passed
pub record PassesOn (s : Stored) (old : List Run) (x : Sym) (new : List Run) : Type 0 where
  pub right : AreRuns s.cells new
  pub symbols : runs_symbols s old ≡ x ∷ runs_symbols s new

-- the same variables are left, and no more symbols than before
pub record HasSameVariables (before after : List Sym) : Type 0 where
  pub there : (v : ℕ) → IsAmong (flat_map variable_in before) v → IsAmong (flat_map variable_in after) v
  pub only : (v : ℕ) → IsAmong (flat_map variable_in after) v → IsAmong (flat_map variable_in before) v
  pub shorter : length after ≤ length before

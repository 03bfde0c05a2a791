-- A goal and a clause's head that are made equal, where the head isn't loaded as a whole.
use Rattle.std.specs.Prelude.{◌≡◌, ℕ, ◌+◌, ◌<◌, ◌≤◌, ◌^◌, Bool, true, false, List, ◌++◌, length, map, get_or, drop}
use Rattle.apd_term.specs.declared.term.Sym.{Sym}
use Rattle.apd_term.specs.declared.term.Sym.TheVariants.{Var}
use Rattle.apd_term.specs.Term.{Term, apply, spell, size, first_of, read_all}
use Rattle.apd_term.specs.Substitution.{term_for}
use Rattle.apd_unify.specs.Unifier.{IsUnifier, HasNoUnifier}
use Rattle.apd_unify.specs.Cells.{AreCells}
use Rattle.apd_unify.specs.declared.store.Cell.{Cell}
use Rattle.apd_unify.specs.declared.heads.Met.{Met}
use Rattle.apd_unify.specs.declared.heads.Met.TheVariants.{Clash, Past, Symbol}
use Rattle.apd_cells.specs.Slots.{EachGetsAny, AreSlots, Fits, Numbering, value_in}
use Rattle.apd_cells.specs.Stored.{Stored}
use Rattle.apd_cells.specs.Store.{Keeps, meaning, term_at}
use Rattle.apd_cells.specs.Work.{IsRun, Leads, PassesOn, run_symbols}
use Rattle.apd_cells.specs.declared.slots.Slot.{Slot}
use Rattle.apd_cells.specs.declared.walk.Run.{Run}

-- cells came behind the others, and what stands for a clause's variables goes on to do so
pub record HasGoneOn (s s' : Stored) (old new : List Slot) : Type 0 where
  pub more : List Sym
  pub cells : s'.cells ≡ s.cells ++ more
  pub variables : s.variables ≤ s'.variables
  pub slots : AreSlots s'.cells s'.variables new
  pub later : EachGetsAny s.variables s'.cells old new
  pub keeps : Keeps s s'

-- the pairs were applied to what the store's variables mean, and to what stands for the clause's variables, where those
-- for which nothing stands have the numbers of g
pub record IsMade (g : Numbering) (s s' : Stored) (old new : List Slot) (pairs : List (ℕ × Term)) : Type 0 where
  pub means : (v : ℕ) → v < s.variables → meaning s'.cells s'.trail v ≡ apply (term_for pairs) (meaning s.cells s.trail v)
  pub values : (v : ℕ) → value_in s' g.of new v ≡ apply (term_for pairs) (value_in s g.of old v)

-- a most general unifier of the term at a cell and a clause's term was applied
pub record IsMatched (g : Numbering) (s s' : Stored) (old new : List Slot) (at : ℕ) (t : Term) : Type 0 where
  pub pairs : List (ℕ × Term)
  pub unifier : IsUnifier (term_at s at) (apply (value_in s g.of old) t) pairs
  pub made : IsMade g s s' old new pairs

-- a clause's term was loaded at a cell, with what stands for its variables in their places
pub record IsLoadedFor (s s' : Stored) (old new : List Slot) (t : Term) (c : ℕ) : Type 0 where
  pub gone : HasGoneOn s s' old new
  pub inside : c < length s'.cells
  pub values : (g : Numbering) → Fits g s' new → (v : ℕ) → value_in s' g.of new v ≡ value_in s g.of old v
  pub means : (v : ℕ) → meaning s'.cells s'.trail v ≡ meaning s.cells s.trail v
  pub others : (d : ℕ) → d < length s.cells → term_at s' d ≡ term_at s d
  pub made : (g : Numbering) → Fits g s' new → term_at s' c ≡ apply (value_in s' g.of new) t

-- a clause's goals were loaded at these cells, with what stands for its variables in their places
pub record HasBody (s s' : Stored) (old new : List Slot) (body : List Term) (goals : List Cell) : Type 0 where
  pub gone : HasGoneOn s s' old new
  pub values : (g : Numbering) → Fits g s' new → (v : ℕ) → value_in s' g.of new v ≡ value_in s g.of old v
  pub others : (c : ℕ) → c < length s.cells → term_at s' c ≡ term_at s c
  pub made : (g : Numbering) → Fits g s' new → map (λ (c : Cell). term_at s' c.0) goals ≡ map (apply (value_in s' g.of new)) body
  pub inside : AreCells (length s'.cells) goals

-- whether the two have a unifier, and what was done where they have, by any numbers that fit what stands for variables
-- in the end
abbrev pub Matches : Bool → Stored → Stored → List Slot → List Slot → ℕ → Term → Type 0
Matches true s s' old new at t = (g : Numbering) → Fits g s' new → IsMatched g s s' old new at t
Matches false s s' old new at t = (g : Numbering) → Fits g s' new → HasNoUnifier (term_at s at) (apply (value_in s g.of old) t)

-- nothing was done, and the cell leads to the symbol with which the head goes on at a place
pub record MeetsSymbol (s s' : Stored) (old new : List Slot) (at : ℕ) (head : List Sym) (place to : ℕ) : Type 0 where
  pub same : s' ≡ s
  pub slots : new ≡ old
  pub leads : Leads s at to
  pub symbol : get_or s.cells to (Var 0) ≡ get_or head place (Var 0)
  pub fixed : (v : ℕ) → ¬ (get_or head place (Var 0) ≡ Var v)
  pub fits : length s.cells < 2 ^ 64

-- what was done with the term at a cell and the term that begins at a place of a head
abbrev pub Meets : Met → Stored → Stored → List Slot → List Slot → ℕ → List Sym → ℕ → Type 0
Meets Clash s s' old new at head place = Matches false s s' old new at (first_of (read_all (drop place head)))
Meets (Past end) s s' old new at head place =
    Matches true s s' old new at (first_of (read_all (drop place head))) × (end ≡ place + size (first_of (read_all (drop place head))))
Meets (Symbol to) s s' old new at head place = MeetsSymbol s s' old new at head place to

-- the first symbol of the runs was passed
pub record GoesUnder (s : Stored) (old new : List Run) : Type 0 where
  pub symbol : Sym
  pub passes : PassesOn s old symbol new

-- the run is that behind the first term
pub record IsPastFirst (s : Stored) (here next : Run) : Type 0 where
  pub right : IsRun s.cells next.at next.left
  pub symbols : run_symbols s here.at here.left ≡ spell (term_at s here.at) ++ run_symbols s next.at next.left

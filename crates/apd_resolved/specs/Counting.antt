-- Counting the symbols of a term.
use Rattle.std.specs.Prelude.{◌≡◌, ℕ, ◌<◌, ◌≤◌, Option, Some, None, List, [], ◌∷◌, ◌++◌, length}
use Rattle.std.specs.List.{flat_map}
use Rattle.apd_term.specs.declared.term.Sym.{Sym}
use Rattle.apd_term.specs.Spelling.{variable_in}
use Rattle.apd_term.specs.Term.{IsAmong, size}
use Rattle.apd_cells.specs.declared.known.Extent.{Extent}
use Rattle.apd_cells.specs.declared.walk.Run.{Run}
use Rattle.apd_cells.specs.Known.{HasExtent}
use Rattle.apd_cells.specs.Stored.{Stored}
use Rattle.apd_cells.specs.Store.{term_at}
use Rattle.apd_cells.specs.Work.{AreRuns, runs_symbols}
use Rattle.apd_resolved.specs.declared.counting.Count.{Count}
use Rattle.apd_resolved.specs.declared.quick.CountedPart.{CountedPart}

-- the extent of one symbol
pub record IsOfSymbol (x : Sym) (e : Extent) : Type 0 where
  pub one : e.size ≡ 1
  pub below : (v : ℕ) → IsAmong (variable_in x) v → v < e.above

-- some symbols of the runs were passed, which have this extent
pub record PassesPart (s : Stored) (old : List Run) (e : Extent) (new : List Run) : Type 0 where
  pub right : AreRuns s.cells new
  pub part : List Sym
  pub symbols : runs_symbols s old ≡ part ++ runs_symbols s new
  pub long : e.size ≡ length part
  pub some : 0 < e.size
  pub below : (v : ℕ) → IsAmong (flat_map variable_in part) v → v < e.above

-- some symbols of the runs were passed, or none, which have this extent
pub record PassesFront (s : Stored) (old : List Run) (e : Extent) (new : List Run) : Type 0 where
  pub right : AreRuns s.cells new
  pub part : List Sym
  pub symbols : runs_symbols s old ≡ part ++ runs_symbols s new
  pub long : e.size ≡ length part
  pub below : (v : ℕ) → IsAmong (flat_map variable_in part) v → v < e.above

-- the extent of the term at a cell, if its size is within the limit
abbrev pub CountedWithin : Stored → ℕ → ℕ → Option Count → Type 0
CountedWithin s c limit None = limit < size (term_at s c)
CountedWithin s c limit (Some n) = HasExtent s c n.extent × (n.extent.size ≤ limit)

-- the same of the extent alone
abbrev pub MeasuredWithin : Stored → ℕ → ℕ → Option Extent → Type 0
MeasuredWithin s c limit None = limit < size (term_at s c)
MeasuredWithin s c limit (Some e) = HasExtent s c e × (e.size ≤ limit)

-- some symbols of a run were passed, or it has more than the limit
abbrev pub MeasuresPart : Stored → Run → ℕ → Option CountedPart → Type 0
MeasuresPart s here limit None = limit < length (runs_symbols s (here ∷ []))
MeasuresPart s here limit (Some p) = PassesPart s (here ∷ []) p.extent (p.next ∷ [])

-- Terms without variables that stand in the cells already: those that a clause's term begins with, and one that a new
-- variable is bound to.
use Rattle.std.specs.Prelude.{◌≡◌, ℕ, ◌<◌, ◌≤◌, List, [], length, take}
use Rattle.std.specs.List.{flat_map}
use Rattle.apd_term.specs.declared.term.Sym.{Sym}
use Rattle.apd_term.specs.Spelling.{variable_in}
use Rattle.apd_term.specs.Term.{Term, spell}
use Rattle.apd_cells.specs.Stored.{Stored}
use Rattle.apd_cells.specs.Store.{term_at}
use Rattle.apd_cells.specs.Stretches.{AreMeant, AreStretches, IsMeant, IsStretch}
use Rattle.apd_cells.specs.declared.slots.Stretch.{Stretch}

-- the same symbols, none of which is a variable
pub record AreSame (xs ys : List Sym) : Type 0 where
  pub same : ys ≡ xs
  pub fixed : flat_map variable_in xs ≡ []

-- the first n of the symbols spell the term, which has no variable
pub record Begins (t : Term) (symbols : List Sym) (n : ℕ) : Type 0 where
  pub within : n ≤ length symbols
  pub some : 0 < n
  pub spelled : spell t ≡ take n symbols
  pub fixed : flat_map variable_in (take n symbols) ≡ []

-- a stretch of the symbols, and its symbol means them
pub record IsCopied (means : ℕ → Term) (symbols : List Sym) (c : Stretch) : Type 0 where
  pub stretch : IsStretch symbols c
  pub meant : IsMeant means symbols c

pub record AreCopied (means : ℕ → Term) (symbols : List Sym) (cs : List Stretch) : Type 0 where
  pub stretches : AreStretches symbols cs
  pub meant : AreMeant means symbols cs

-- terms were loaded, and a new variable was bound: the terms that were there are the same
pub record HasShared (old new : Stored) : Type 0 where
  pub cells : length old.cells ≤ length new.cells
  pub others : (c : ℕ) → c < length old.cells → term_at new c ≡ term_at old c

-- Stretches of a clause's symbols without variables, for each of which one symbol is put behind the cells (structure
-- sharing, Boyer and Moore 1972).
use Rattle.std.specs.Prelude.{◌≡◌, ℕ, ◌+◌, ◌<◌, ◌≤◌, List, [], length, take, drop, All}
use Rattle.std.specs.List.{flat_map}
use Rattle.apd_term.specs.declared.term.Sym.{Sym}
use Rattle.apd_term.specs.Spelling.{image, variable_in}
use Rattle.apd_term.specs.Term.{Term}
use Rattle.apd_cells.specs.declared.slots.Stretch.{Stretch}

-- the symbols that a stretch stands for
abbrev pub stretched : List Sym → Stretch → List Sym
stretched symbols c = take c.size (drop c.from symbols)

-- a stretch stands for some of the symbols, none of which is a variable
pub record IsStretch (symbols : List Sym) (c : Stretch) : Type 0 where
  pub some : 0 < c.size
  pub within : c.from + c.size ≤ length symbols
  pub fixed : flat_map variable_in (stretched symbols c) ≡ []

-- its symbol means them
pub record IsMeant (means : ℕ → Term) (symbols : List Sym) (c : Stretch) : Type 0 where
  pub is : image means c.symbol ≡ stretched symbols c

abbrev pub AreStretches : List Sym → List Stretch → Type 0
AreStretches symbols cs = All (IsStretch symbols) cs

abbrev pub AreMeant : (ℕ → Term) → List Sym → List Stretch → Type 0
AreMeant means symbols cs = All (IsMeant means symbols) cs

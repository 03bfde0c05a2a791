-- Symbols that are no variables, passed one after another.
use Rattle.std.specs.Prelude.{◌≡◌, ℕ, [], ◌∷◌}
use Rattle.apd_term.specs.declared.term.Sym.{Sym}
use Rattle.apd_term.specs.Term.{arity_of}
use Rattle.apd_cells.specs.declared.walk.Run.{Run}
use Rattle.apd_cells.specs.First.{IsFixed}
use Rattle.apd_cells.specs.Stored.{Stored}
use Rattle.apd_cells.specs.Work.{PassesOn}

-- a symbol that is no variable, with so many terms under it
pub record HasFixedArity (x : Sym) (n : ℕ) : Type 0 where
  pub fixed : IsFixed x
  pub arity : n ≡ arity_of x

-- the first symbol of a run was passed, and it is no variable
pub record PassesFixed (s : Stored) (here next : Run) : Type 0 where
  pub symbol : Sym
  pub fixed : IsFixed symbol
  pub passes : PassesOn s (here ∷ []) symbol (next ∷ [])

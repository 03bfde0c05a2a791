-- The first symbols of terms, and keys: what a first argument begins with, by which terms are told apart before they are unified.
use Rattle.std.specs.Prelude.{◌≡◌, ◌≢◌, ℕ, length}
use Rattle.apd_term.specs.declared.term.Sym.{Sym}
use Rattle.apd_term.specs.declared.term.Sym.TheVariants.{Var, Int, Fun}
use Rattle.apd_term.specs.Term.{Term, variable, integer, compound, none, more, list_of, apply}

-- the first symbol of a term
abbrev pub first_symbol : Term → Sym
first_symbol (variable v) = Var v
first_symbol (integer i) = Int i
first_symbol (compound f ts) = Fun f (length (list_of ts))

-- a symbol that is no variable
abbrev pub IsFixed : Sym → Type 0
IsFixed x = (v : ℕ) → ¬ (x ≡ Var v)

-- two symbols that stay different whatever is put for variables
pub record AreClashing (x y : Sym) : Type 0 where
  pub different : x ≢ y
  pub left : IsFixed x
  pub right : IsFixed y

-- the first symbol of a term's first argument; where it has none a variable's, which tells nothing
abbrev pub key_of : Term → Sym
key_of (variable v) = Var 0
key_of (integer i) = Var 0
key_of (compound f none) = Var 0
key_of (compound f (more t ts)) = first_symbol t

-- no term is an instance of both
abbrev pub AreApart : Term → Term → Type 0
AreApart a b = (s r : ℕ → Term) → ¬ (apply s a ≡ apply r b)

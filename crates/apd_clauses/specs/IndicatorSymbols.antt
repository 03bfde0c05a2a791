-- Predicate indicators by the symbols that a term begins with.
use Rattle.std.specs.Prelude.{ℕ, pos, negsuc, ◌==◌, ◌&&◌, nat_le, List, [], ◌∷◌, Option, None, Some, if◌then◌else◌}
use Rattle.std.specs.Option.{option_map}
use Rattle.apd_term.specs.declared.term.Pred.{Pred}
use Rattle.apd_term.specs.declared.term.Sym.{Sym}
use Rattle.apd_term.specs.declared.term.Sym.TheVariants.{Var, Int, Fun}
use Rattle.apd_term.specs.declared.standard.TheConstants.{DIVIDE}
use Rattle.apd_clauses.specs.Kinds.{◌∕◌}

-- the number of arguments that a symbol is
abbrev pub arity_in : List Sym → Option ℕ
arity_in [] = None
arity_in (Var v ∷ rest) = None
arity_in (Int (pos n) ∷ rest) = if nat_le n 255 then Some n else None
arity_in (Int (negsuc n) ∷ rest) = None
arity_in (Fun f n ∷ rest) = None

-- a name alone, and behind it a number of arguments
abbrev pub named_in : List Sym → Option Pred
named_in [] = None
named_in (Var v ∷ rest) = None
named_in (Int i ∷ rest) = None
named_in (Fun f n ∷ rest) = if n == 0 then option_map (λ k. f ∕ k) (arity_in rest) else None

-- behind a slash
abbrev pub predicate_in : List Sym → Option Pred
predicate_in [] = None
predicate_in (Var v ∷ rest) = None
predicate_in (Int i ∷ rest) = None
predicate_in (Fun f n ∷ rest) = if (f.0 == DIVIDE.0) && (n == 2) then named_in rest else None

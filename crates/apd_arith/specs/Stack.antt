-- The values of whole terms that stand one after another, from a symbol on.
use Rattle.std.specs.Prelude.{List, ◌∷◌, take, drop, Ok, Err}
use Rattle.apd_term.specs.declared.term.Sym.{Sym}
use Rattle.apd_term.specs.declared.term.Sym.TheVariants.{Var, Int, Fun}
use Rattle.apd_arith.specs.declared.fault.ArithFault.TheVariants.{Unbound}
use Rattle.apd_arith.specs.Value.{Value, value_of}

-- the values with one more symbol in front of the terms, which takes the first of them as its arguments
abbrev pub with_symbol : Sym → List Value → List Value
with_symbol (Var v) values = Err Unbound ∷ values
with_symbol (Int i) values = Ok i ∷ values
with_symbol (Fun name n) values = value_of name (take n values) ∷ drop n values

-- The numbers that symbols have.
use Rattle.std.specs.Prelude.{◌<◌, ◌^◌}
use Rattle.apd_reading_back.specs.Law.{IsWord}
use Rattle.apd_term.specs.declared.term.Sym.{Sym}
use Rattle.apd_term.specs.declared.term.Sym.TheVariants.{Var, Int, Fun}

-- variables and integers of 64 bits, at most 255 arguments
abbrev pub IsSymbol : Sym → Type 0
IsSymbol (Var v) = v < 2 ^ 64
IsSymbol (Int i) = IsWord i
IsSymbol (Fun f n) = n < 256

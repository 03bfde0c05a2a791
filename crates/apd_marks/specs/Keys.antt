-- Keys: a term's symbols as what can stand in a set.
use Rattle.std.specs.Prelude.{List, map}
use Rattle.apd_term.specs.Term.{Term, spell}
use Rattle.apd_term.specs.declared.term.Sym.{Sym}
use Rattle.apd_term.specs.declared.term.Sym.TheVariants.{Var, Int, Fun}
use Rattle.apd_marks.specs.declared.keys.KeyPart.{KeyPart}
use Rattle.apd_marks.specs.declared.keys.KeyPart.TheVariants.{Variable, Integer, Name}

abbrev pub part_of : Sym → KeyPart
part_of (Var v) = Variable v
part_of (Int i) = Integer i
part_of (Fun f n) = Name f.0 n

-- a term's key
abbrev pub key : Term → List KeyPart
key t = map part_of (spell t)

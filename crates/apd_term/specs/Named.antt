-- Terms whose names are among the first n names.
use Rattle.std.specs.Prelude.{ℕ, ◌<◌, List, [], ◌∷◌}
use Rattle.apd_term.specs.Term.{Term, Terms, variable, integer, compound, none, more}
use Rattle.apd_term.specs.declared.tuple.Tuple.{Tuple}

-- each name of the term has a number below n
abbrev mutual
  pub IsNamed : ℕ → Term → Type 0
  IsNamed n (variable v) = Unit {0}
  IsNamed n (integer i) = Unit {0}
  IsNamed n (compound f ts) = (f.0 < n) × AreNamed n ts

  pub AreNamed : ℕ → Terms → Type 0
  AreNamed n none = Unit {0}
  AreNamed n (more t ts) = IsNamed n t × AreNamed n ts

abbrev pub AllNamed : ℕ → List Term → Type 0
AllNamed n [] = Unit {0}
AllNamed n (t ∷ ts) = IsNamed n t × AllNamed n ts

abbrev pub TupleIsNamed : ℕ → Tuple → Type 0
TupleIsNamed n t = IsNamed n t.head × AllNamed n t.body

abbrev pub AllTuplesNamed : ℕ → List Tuple → Type 0
AllTuplesNamed n [] = Unit {0}
AllTuplesNamed n (t ∷ ts) = TupleIsNamed n t × AllTuplesNamed n ts

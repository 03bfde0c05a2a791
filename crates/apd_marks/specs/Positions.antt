-- Marks of positions: what a term has at a position, each of its instances has there too (path indexing, Stickel 1989).
use Rattle.std.specs.Prelude.{ℕ, ◌≡◌, ◌⊎◌, ◌-◌, ◌==◌, ◌++◌, if◌then◌else◌, List, [], ◌∷◌, length}
use Rattle.apd_term.specs.Term.{Term, Terms, variable, integer, compound, none, more, list_of, IsAmong, IsGround}
use Rattle.apd_term.specs.declared.term.Sym.{Sym}
use Rattle.apd_term.specs.declared.term.Sym.TheVariants.{Var, Int, Fun}
use Rattle.apd_marks.specs.Mixing.{mixed, with_term}
use Rattle.apd_marks.specs.declared.positions.Parent.{Parent}

-- the mark of a symbol that stands n-th from the end below one with this mark
abbrev pub below : ℕ → ℕ → Sym → ℕ
below mark n symbol = mixed (mixed mark (Var n)) symbol

-- a mark for each symbol with its position, but for variables; n is where the term stands, from the end
abbrev mutual
  pub marks_at : ℕ → ℕ → Term → List ℕ
  marks_at mark n (variable v) = []
  marks_at mark n (integer i) = below mark n (Int i) ∷ []
  marks_at mark n (compound f ts) = below mark n (Fun f (length (list_of ts))) ∷ marks_below (below mark n (Fun f (length (list_of ts)))) ts

  pub marks_below : ℕ → Terms → List ℕ
  marks_below mark none = []
  marks_below mark (more t ts) = marks_at mark (length (list_of (more t ts))) t ++ marks_below mark ts

-- what marks of positions begin with
abbrev pub top : ℕ
top = 7

abbrev pub marks_of : Term → List ℕ
marks_of t = marks_below top (more t none)

-- the mark that all terms have, and that of a whole term
abbrev pub any_term : ℕ
any_term = 0

abbrev pub whole : Term → ℕ
whole t = with_term 1 t

abbrev pub all_marks : Term → List ℕ
all_marks t = (marks_of t ++ whole t ∷ []) ++ any_term ∷ []

-- a mark of the term that each of its instances has too
abbrev pub IsLasting : Term → ℕ → Type 0
IsLasting t m = (IsGround t × (m ≡ whole t)) ⊎ ((m ≡ any_term) ⊎ IsAmong (marks_of t) m)

-- The walk: a parent is a symbol's mark, with how many of the terms below it are still to be read. The last parent is the innermost.

abbrev pub waiting : ℕ → ℕ → List Parent → List Parent
waiting mark n parents = if n == 0 then parents else parents ++ record { mark = mark; left = n } ∷ []

-- what is noted of the symbol that is read next, and the parents after it
abbrev pub noted : Parent → Sym → List ℕ
noted f (Var v) = []
noted f (Int i) = below f.mark f.left (Int i) ∷ []
noted f (Fun g n) = below f.mark f.left (Fun g n) ∷ []

abbrev pub onward : Parent → Sym → List Parent → List Parent
onward f (Var v) parents = waiting f.mark (f.left - 1) parents
onward f (Int i) parents = waiting f.mark (f.left - 1) parents
onward f (Fun g n) parents = waiting (below f.mark f.left (Fun g n)) n (waiting f.mark (f.left - 1) parents)

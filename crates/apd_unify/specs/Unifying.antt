-- The equations that a unification has still to solve, and what is done with one of them.
use Rattle.std.specs.Prelude.{◌≡◌, ℕ, ◌<◌, ◌⊎◌, Option, Some, None, List, [], ◌∷◌, ◌++◌, get_or, map}
use Rattle.std.specs.List.{zip}
use Rattle.apd_term.specs.declared.term.NameId.{NameId}
use Rattle.apd_term.specs.declared.term.Sym.{Sym}
use Rattle.apd_term.specs.declared.term.Sym.TheVariants.{Var, Fun}
use Rattle.apd_term.specs.Term.{Term, variable, apply, arguments, Occurs}
use Rattle.apd_unify.specs.Textbook.{Equation}
use Rattle.apd_unify.specs.Unifier.{HasNoUnifier}
use Rattle.apd_unify.specs.declared.unify.Pairs.{Pairs}
use Rattle.apd_unify.specs.declared.unify.PairOutcome.{PairOutcome}
use Rattle.apd_unify.specs.declared.unify.PairOutcome.TheVariants.{Equal, Bound, Clash, Arguments}
use Rattle.apd_cells.specs.Stored.{Stored}
use Rattle.apd_cells.specs.Store.{meaning, term_at, bound}
use Rattle.apd_cells.specs.Work.{run_of, IsRun}

-- so many terms are written at both cells
pub record IsPairs (cells : List Sym) (p : Pairs) : Type 0 where
  pub left_run : IsRun cells p.a p.left
  pub right_run : IsRun cells p.b p.left

abbrev pub ArePairs : List Sym → List Pairs → Type 0
ArePairs cells [] = Unit {0}
ArePairs cells (p ∷ ps) = IsPairs cells p × ArePairs cells ps

-- the terms of two runs, place by place, with all bindings applied
abbrev pub pairs_of : Stored → Pairs → List Equation
pairs_of s p = zip (map (apply (meaning s.cells s.trail)) (run_of s.cells p.a p.left)) (map (apply (meaning s.cells s.trail)) (run_of s.cells p.b p.left))

abbrev pub equations_of : Stored → List Pairs → List Equation
equations_of s [] = []
equations_of s (p ∷ ps) = pairs_of s p ++ equations_of s ps

-- one of the terms is the variable, and the other, which is t, doesn't have it
pub record IsElimination (a b : Term) (v : ℕ) (t : Term) : Type 0 where
  pub sides : ((a ≡ variable v) × (b ≡ t)) ⊎ ((b ≡ variable v) × (a ≡ t))
  pub acyclic : ¬ Occurs v t

-- one of the terms was a variable, and was bound to the other
pub record HasEliminated (old new : Stored) (a b : ℕ) : Type 0 where
  pub v : ℕ
  pub to : ℕ
  pub elimination : IsElimination (term_at old a) (term_at old b) v (term_at old to)
  pub is : new ≡ bound old v to

-- both cells have the name with so many arguments
pub record HasArguments (cells : List Sym) (a b n : ℕ) : Type 0 where
  pub f : NameId
  pub left_symbol : get_or cells a (Var 0) ≡ Fun f n
  pub right_symbol : get_or cells b (Var 0) ≡ Fun f n

-- what was done with the terms at two cells
abbrev pub Solves : PairOutcome → Stored → Stored → ℕ → ℕ → Type 0
Solves Equal old new a b = (new ≡ old) × (term_at old a ≡ term_at old b)
Solves Bound old new a b = HasEliminated old new a b
Solves Clash old new a b = (new ≡ old) × HasNoUnifier (term_at old a) (term_at old b)
Solves (Arguments n) old new a b = (new ≡ old) × HasArguments old.cells a b n

-- the waiting pairs in place of those that are done: the terms of no pair are left, or those of a pair that isn't done
abbrev pub GoesOn : Pairs → List Pairs → Option Pairs → List Pairs → Type 0
GoesOn here old None new = (s : Stored) → equations_of s (here ∷ old) ≡ []
GoesOn here old (Some p) new = (0 < p.left) × (((s : Stored) → equations_of s (here ∷ old) ≡ equations_of s (p ∷ new)) × ((cells : List Sym) → ArePairs cells (here ∷ old) → ArePairs cells (p ∷ new)))

-- the pairs are those after the first
pub record IsPast (s : Stored) (here next : Pairs) : Type 0 where
  pub right : IsPairs s.cells next
  pub first : pairs_of s here ≡ (term_at s here.a, term_at s here.b) ∷ pairs_of s next

-- the pairs are those after the first, whose terms the next pair has again
pub record IsPastTwin (s : Stored) (here next : Pairs) : Type 0 where
  pub past : IsPast s here next
  pub some : 0 < next.left
  pub a_again : term_at s next.a ≡ term_at s here.a
  pub b_again : term_at s next.b ≡ term_at s here.b

-- the first equation gave way to those between the arguments of two terms
pub record IsDecomposed (s : Stored) (old : List Pairs) (here next : Pairs) (new : List Pairs) (x y : ℕ) : Type 0 where
  pub right : ArePairs s.cells (next ∷ new)
  pub rest : List Equation
  pub before : equations_of s (here ∷ old) ≡ (term_at s here.a, term_at s here.b) ∷ rest
  pub after : equations_of s (next ∷ new) ≡ zip (arguments (term_at s x)) (arguments (term_at s y)) ++ rest

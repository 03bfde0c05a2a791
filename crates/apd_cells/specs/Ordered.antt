-- Variables in the order of their first appearance, and terms with these numbers.
use Rattle.std.specs.Prelude.{◌≡◌, ◌≢◌, ℕ, ◌+◌, ◌<◌, ◌≤◌, Bool, true, false, Option, Some, None, List, length, get_or}
use Rattle.std.specs.List.{fold}
use Rattle.apd_term.specs.declared.term.Sym.{Sym}
use Rattle.apd_term.specs.declared.term.Sym.TheVariants.{Var, Int, Fun}
use Rattle.apd_term.specs.Term.{Term, spell, size, variables}
use Rattle.apd_term.specs.Canonical.{with_new, place_of, canonical_in}

-- the variable stands at this place of the order, counted from 0
pub record IsPlace (seen : List ℕ) (v i : ℕ) : Type 0 where
  pub there : i < length seen
  pub is : get_or seen i 0 ≡ v

-- it stands at none of the first n places
abbrev pub IsNotBefore : ℕ → List ℕ → ℕ → Type 0
IsNotBefore n seen v = (i : ℕ) → i < n → i < length seen → get_or seen i 0 ≢ v

-- it stands there first
pub record IsFirst (seen : List ℕ) (v i : ℕ) : Type 0 where
  pub place : IsPlace seen v i
  pub number : i + 1 ≡ place_of seen v

-- the table has the place of each variable of the order behind the few first; what it has for others says nothing
abbrev pub HasPlaces : List ℕ → List ℕ → Type 0
HasPlaces seen places = (i : ℕ) → 16 ≤ i → i < length seen → (get_or seen i 0 < length places) × (get_or places (get_or seen i 0) 0 ≡ i)

-- the table has what it had, and maybe more
abbrev pub HasMorePlaces : List ℕ → List ℕ → Type 0
HasMorePlaces old new = (v : ℕ) → v < length old → (v < length new) × (get_or new v 0 ≡ get_or old v 0)

-- a symbol with its variable's place in the order for its number
abbrev pub placed : List ℕ → Sym → Sym
placed seen (Var v) = Var (place_of seen v)
placed seen (Int i) = Int i
placed seen (Fun f n) = Fun f n

-- the term's variables were put into the order, and its symbols written with their places
pub record IsWritten (old new : List ℕ) (t : Term) (limit : ℕ) (symbols : List Sym) : Type 0 where
  pub within : size t ≤ limit
  pub order : new ≡ fold with_new old (variables t)
  pub symbols_are : symbols ≡ spell (canonical_in new t)

-- they were, or the term is over the limit
abbrev pub Writes : Bool → List ℕ → List ℕ → Term → ℕ → List Sym → Type 0
Writes true old new t limit symbols = IsWritten old new t limit symbols
Writes false old new t limit symbols = limit < size t

-- the term's variables were put into the order, and it was made anew with their places
pub record IsNumberedAnew (old new : List ℕ) (t : Term) (limit : ℕ) (r : Term) : Type 0 where
  pub within : size t ≤ limit
  pub order : new ≡ fold with_new old (variables t)
  pub is : r ≡ canonical_in new t
  pub size_is : size r ≡ size t

-- the term with its variables' places in the order for their numbers; none exactly where it is over the limit
abbrev pub Numbers : List ℕ → List ℕ → Term → ℕ → Option Term → Type 0
Numbers old new t limit None = limit < size t
Numbers old new t limit (Some r) = IsNumberedAnew old new t limit r

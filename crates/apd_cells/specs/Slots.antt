-- What stands for the variables of a clause while it is entered: for each nothing yet, a variable of its own, or the term
-- at a cell where one symbol is written.
use Rattle.std.specs.Prelude.{◌≡◌, ◌≢◌, ℕ, ◌+◌, ◌<◌, ◌≤◌, List, [], ◌∷◌, ◌++◌, length, get_or, take, drop, map}
use Rattle.std.specs.List.{flat_map}
use Rattle.apd_term.specs.declared.term.Sym.{Sym}
use Rattle.apd_term.specs.declared.term.Sym.TheVariants.{Var, Int, Fun}
use Rattle.apd_term.specs.Term.{Term, variable, integer, compound, none, apply, spell, variables, arity_of, IsAmong, Occurs}
use Rattle.apd_term.specs.Spelling.{image, variable_in}
use Rattle.apd_term.specs.Canonical.{shifted}
use Rattle.apd_cells.specs.Stored.{Stored}
use Rattle.apd_cells.specs.Store.{above, meaning, term_at, loaded, symbol_at, with_symbols}
use Rattle.apd_cells.specs.declared.slots.Stretch.{Stretch}
use Rattle.apd_cells.specs.declared.slots.Slot.{Slot}
use Rattle.apd_cells.specs.declared.slots.Slot.TheVariants.{New, Own, Given}

-- what stands for a variable
abbrev pub slot_at : List Slot → ℕ → Slot
slot_at slots v = get_or slots v New

-- the cell, 0 where there is none
abbrev pub cell_of : Slot → ℕ
cell_of New = 0
cell_of (Own c) = c
cell_of (Given c) = c

abbrev pub IsSet : Slot → Type 0
IsSet New = ⊥
IsSet (Own c) = Unit {0}
IsSet (Given c) = Unit {0}

-- the same stands for each variable
abbrev pub HasRoom : List Slot → List Slot → Type 0
HasRoom old new = (v : ℕ) → slot_at new v ≡ slot_at old v

-- x stands for v, and the same as before for the others
pub record HasSet (old new : List Slot) (v : ℕ) (x : Slot) : Type 0 where
  pub here : slot_at new v ≡ x
  pub others : (w : ℕ) → v ≢ w → slot_at new w ≡ slot_at old w

-- one symbol is written at a cell
pub record IsSingle (cells : List Sym) (c : ℕ) : Type 0 where
  pub inside : c < length cells
  pub one : arity_of (get_or cells c (Var 0)) ≡ 0

-- a variable is written at the cell, one of the first n, which is v's own
pub record IsOwn (cells : List Sym) (n : ℕ) (owner : ℕ → ℕ) (v c : ℕ) : Type 0 where
  pub number : ℕ
  pub is : get_or cells c (Var 0) ≡ Var number
  pub below : number < n
  pub owned : owner number ≡ v

abbrev pub IsSlot : List Sym → ℕ → (ℕ → ℕ) → ℕ → Slot → Type 0
IsSlot cells n owner v New = Unit {0}
IsSlot cells n owner v (Own c) = IsSingle cells c × IsOwn cells n owner v c
IsSlot cells n owner v (Given c) = IsSingle cells c

-- the slots are of cells at which one symbol is written, and no variable is two variables' own
pub record AreSlots (cells : List Sym) (n : ℕ) (slots : List Slot) : Type 0 where
  pub owner : ℕ → ℕ
  pub each : (v : ℕ) → IsSlot cells n owner v (slot_at slots v)

-- what stands for a variable goes on to stand for it, and one for which nothing stood may have a variable of its own that
-- isn't one of the first n
abbrev pub GetsOwn : ℕ → List Sym → Slot → Slot → Type 0
GetsOwn n cells New New = Unit {0}
GetsOwn n cells New (Own c) = (m : ℕ) → get_or cells c (Var 0) ≡ Var m → n ≤ m
GetsOwn n cells New (Given c) = ⊥
GetsOwn n cells (Own c) x = x ≡ Own c
GetsOwn n cells (Given c) x = x ≡ Given c

abbrev pub EachGetsOwn : ℕ → List Sym → List Slot → List Slot → Type 0
EachGetsOwn n cells old new = (v : ℕ) → GetsOwn n cells (slot_at old v) (slot_at new v)

-- what stands for a variable goes on to stand for it, and one for which nothing stood may have a variable of its own that
-- isn't one of the first n, or the term at a cell
abbrev pub GetsAny : ℕ → List Sym → Slot → Slot → Type 0
GetsAny n cells New New = Unit {0}
GetsAny n cells New (Own c) = (m : ℕ) → get_or cells c (Var 0) ≡ Var m → n ≤ m
GetsAny n cells New (Given c) = Unit {0}
GetsAny n cells (Own c) x = x ≡ Own c
GetsAny n cells (Given c) x = x ≡ Given c

abbrev pub EachGetsAny : ℕ → List Sym → List Slot → List Slot → Type 0
EachGetsAny n cells old new = (v : ℕ) → GetsAny n cells (slot_at old v) (slot_at new v)

-- the symbol that is put for one of the clause
abbrev pub put_symbol : List Sym → List Slot → Sym → Sym
put_symbol cells slots (Var v) = get_or cells (cell_of (slot_at slots v)) (Var 0)
put_symbol cells slots (Int i) = Int i
put_symbol cells slots (Fun f n) = Fun f n

-- the term of one symbol
abbrev pub single_term : Sym → Term
single_term (Var v) = variable v
single_term (Int i) = integer i
single_term (Fun f n) = compound f none

-- the term that is put for a variable of the clause
abbrev pub put_for : List Sym → List Slot → ℕ → Term
put_for cells slots v = single_term (get_or cells (cell_of (slot_at slots v)) (Var 0))

-- y is put behind the cells for x, where there are n variables
pub record Places (cells : List Sym) (n : ℕ) (old new : List Slot) (x y : Sym) : Type 0 where
  pub slots : AreSlots (cells ++ y ∷ []) (above n (variable_in y)) new
  pub newer : EachGetsOwn n (cells ++ y ∷ []) old new
  pub put : y ≡ put_symbol (cells ++ y ∷ []) new x
  pub set : (v : ℕ) → x ≡ Var v → IsSet (slot_at new v)

-- symbols of a clause were put behind the cells, where there were n variables and are n'
pub record Placing (cells cells' : List Sym) (n n' : ℕ) (old new : List Slot) (xs : List Sym) : Type 0 where
  pub put : cells' ≡ cells ++ map (put_symbol cells' new) xs
  pub count : n' ≡ above n (flat_map variable_in (map (put_symbol cells' new) xs))
  pub slots : AreSlots cells' n' new
  pub newer : EachGetsOwn n cells' old new
  pub set : (v : ℕ) → IsAmong (flat_map variable_in xs) v → IsSet (slot_at new v)

-- a clause's term was put behind the cells, where there were n variables and are n'
pub record HasPlaced (cells cells' : List Sym) (n n' : ℕ) (old new : List Slot) (t : Term) : Type 0 where
  pub put : cells' ≡ cells ++ spell (shifted 0 (apply (put_for cells' new) t))
  pub count : n' ≡ above n (variables (shifted 0 (apply (put_for cells' new) t)))
  pub slots : AreSlots cells' n' new
  pub newer : EachGetsOwn n cells' old new
  pub set : (v : ℕ) → Occurs v t → IsSet (slot_at new v)

-- a symbol is put behind the cells, where there are n variables, for so many of a clause's, from a place on
pub record PlacesNext (cells : List Sym) (n : ℕ) (old new : List Slot) (symbols : List Sym) (at : ℕ) (c : Stretch) : Type 0 where
  pub some : 0 < c.size
  pub within : at + c.size ≤ length symbols
  pub slots : AreSlots (cells ++ c.symbol ∷ []) (above n (variable_in c.symbol)) new
  pub newer : EachGetsOwn n (cells ++ c.symbol ∷ []) old new
  pub set : (v : ℕ) → IsAmong (flat_map variable_in (take c.size (drop at symbols))) v → IsSet (slot_at new v)

-- under a substitution it is what is put for each of them
abbrev pub IsPutFor : (ℕ → Term) → List Sym → List Slot → List Sym → ℕ → Stretch → Type 0
IsPutFor means cells slots symbols at c =
    image means c.symbol ≡ flat_map (image means) (map (put_symbol (cells ++ c.symbol ∷ []) slots) (take c.size (drop at symbols)))

-- a term was put behind the cells, where there were n variables and are n', that is a clause's term under a substitution
pub record HasPut (means : ℕ → Term) (cells cells' : List Sym) (n n' : ℕ) (old new : List Slot) (t : Term) : Type 0 where
  pub term : Term
  pub put : cells' ≡ cells ++ spell (shifted 0 term)
  pub count : n' ≡ above n (variables (shifted 0 term))
  pub same : apply means term ≡ apply means (apply (put_for cells' new) t)
  pub slots : AreSlots cells' n' new
  pub newer : EachGetsOwn n cells' old new
  pub set : (v : ℕ) → Occurs v t → IsSet (slot_at new v)

-- a term was loaded that means a clause's, with what stands for its variables in their places
pub record HasLoaded (s s' : Stored) (old new : List Slot) (t : Term) : Type 0 where
  pub term : Term
  pub is : s' ≡ loaded s term 0
  pub same : apply (meaning s.cells s.trail) term ≡ apply (meaning s.cells s.trail) (apply (put_for s'.cells new) t)
  pub slots : AreSlots s'.cells s'.variables new
  pub newer : EachGetsOwn s.variables s'.cells old new
  pub set : (v : ℕ) → Occurs v t → IsSet (slot_at new v)

-- the symbols of what is put for terms of the clause
abbrev pub put_terms : List Sym → List Slot → List Term → List Sym
put_terms cells slots ts = flat_map spell (map (apply (put_for cells slots)) ts)

-- terms of a clause were loaded at once, one behind the other, with what stands for its variables in their places
pub record HasLoadedAll (s s' : Stored) (old new : List Slot) (ts : List Term) : Type 0 where
  pub is : s' ≡ with_symbols s (put_terms s'.cells new ts) (above s.variables (flat_map variable_in (put_terms s'.cells new ts)))
  pub slots : AreSlots s'.cells s'.variables new
  pub newer : EachGetsOwn s.variables s'.cells old new
  pub set : (v : ℕ) → IsAmong (flat_map variables ts) v → IsSet (slot_at new v)

-- what stands for a variable, which is variable n where nothing does
abbrev pub value_of : Stored → ℕ → Slot → Term
value_of s n New = variable n
value_of s n (Own c) = term_at s c
value_of s n (Given c) = term_at s c

abbrev pub value_in : Stored → (ℕ → ℕ) → List Slot → ℕ → Term
value_in s g slots v = value_of s (g v) (slot_at slots v)

-- numbers for the variables of a clause, each another
pub record Numbering : Type 0 where
  pub of : ℕ → ℕ
  pub back : ℕ → ℕ
  pub same : (v : ℕ) → back (of v) ≡ v

-- a variable has its own one's number, and one above all of the store where it has none
abbrev pub IsNumberOf : Stored → ℕ → Slot → Type 0
IsNumberOf s n New = s.variables ≤ n
IsNumberOf s n (Own c) = symbol_at s c ≡ Var n
IsNumberOf s n (Given c) = s.variables ≤ n

abbrev pub Fits : Numbering → Stored → List Slot → Type 0
Fits g s slots = (v : ℕ) → IsNumberOf s (g.of v) (slot_at slots v)

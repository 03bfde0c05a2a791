-- Numbers from each of which a list of numbers leads on, and those that are reached from one.
use Rattle.std.specs.Prelude.{ℕ, zero, suc, ◌≡◌, ◌↔◌, ◌+◌, ◌*◌, ◌<◌, ◌≤◌, ◌⊎◌, if◌then◌else◌, List, [], ◌∷◌, length, get_or, nat_eq, IfSome}
use Rattle.indexmap.specs.IndexMap.{get}
use Rattle.apd_term.specs.Term.{IsAmong}
use Rattle.apd_marks.specs.Places.{Index}
use Rattle.apd_bits.specs.Rows.{HasBit, IsWithin, has_bit}
use Rattle.apd_findings.specs.declared.reaching.Edge.{Edge}

-- the number is the first one, or a reached one leads to it
pub data Reaches (lists : List (List ℕ)) (first : ℕ) : ℕ → Type 0 where
  here : Reaches lists first first
  on : (a b : ℕ) → Reaches lists first a → IsAmong (get_or lists a []) b → Reaches lists first b

-- each number that is led to has a list itself
abbrev pub AreWithin : List (List ℕ) → Type 0
AreWithin lists = (a b : ℕ) → IsAmong (get_or lists a []) b → b < length lists

-- one of the edges leads from the one number to the other
abbrev pub IsEdgeAmong : List Edge → ℕ → ℕ → Type 0
IsEdgeAmong [] a b = ⊥
IsEdgeAmong (e ∷ edges) a b = ((e.from ≡ a) × (e.to ≡ b)) ⊎ IsEdgeAmong edges a b

-- the lists have these edges
abbrev pub AreEdges : List (List ℕ) → List Edge → Type 0
AreEdges lists edges = (a b : ℕ) → IsEdgeAmong edges a b → IsAmong (get_or lists a []) b

-- how many numbers below a count the row lacks
abbrev pub lacking : List ℕ → ℕ → ℕ
lacking row zero = 0
lacking row (suc n) = lacking row n + (if has_bit row n then 0 else 1)

-- these numbers are marked now; of what was marked with them each leads to what is marked, or waits, but for fresh edges
pub record HasSeen (lists : List (List ℕ)) (fresh : List Edge) (nexts seen waiting seen_new waiting_new : List ℕ) : Type 0 where
  pub kept : IsWithin seen seen_new
  pub marked : (n : ℕ) → IsAmong nexts n → HasBit seen_new n
  pub right : (n : ℕ) → HasBit seen_new n → HasBit seen n ⊎ ((m : ℕ) × IsAmong nexts m × Reaches lists m n)
  pub closed : (a b : ℕ) → HasBit seen_new a → IsAmong (get_or lists a []) b → HasBit seen a ⊎ (IsAmong waiting_new a ⊎ (HasBit seen_new b ⊎ IsEdgeAmong fresh a b))
  pub still : (n : ℕ) → IsAmong waiting n → IsAmong waiting_new n

-- only such numbers came to wait, each where one less is lacking
pub record HasWaiting (nexts seen waiting seen_new waiting_new : List ℕ) : Type 0 where
  pub waits : (n : ℕ) → IsAmong waiting_new n → IsAmong waiting n ⊎ IsAmong nexts n
  pub fewer : (count : ℕ) → ((n : ℕ) → IsAmong nexts n → n < count) → 2 * lacking seen_new count + length waiting_new ≤ 2 * lacking seen count + length waiting

-- the new row has what is reached from the first number too, but for fresh edges
pub record HasWalked (lists : List (List ℕ)) (fresh : List Edge) (first : ℕ) (row new : List ℕ) : Type 0 where
  pub kept : IsWithin row new
  pub start : HasBit new first
  pub right : (n : ℕ) → HasBit new n → HasBit row n ⊎ Reaches lists first n
  pub closed : (a b : ℕ) → HasBit new a → IsAmong (get_or lists a []) b → HasBit row a ⊎ (HasBit new b ⊎ IsEdgeAmong fresh a b)

-- the row has numbers that are reached from the first one: all, but for what fresh edges lead to
pub record IsRowOf (lists : List (List ℕ)) (fresh : List Edge) (first : ℕ) (row : List ℕ) : Type 0 where
  pub start : HasBit row first
  pub right : (n : ℕ) → HasBit row n → Reaches lists first n
  pub closed : (a b : ℕ) → HasBit row a → IsAmong (get_or lists a []) b → HasBit row b ⊎ IsEdgeAmong fresh a b

-- the row has those that are reached, and no other
abbrev pub HasReached : List (List ℕ) → ℕ → List ℕ → Type 0
HasReached lists first row = (n : ℕ) → HasBit row n ↔ Reaches lists first n

-- each row has what is reached from its number, but for fresh edges
abbrev pub AreReached : List (List ℕ) → List Edge → Index → Type 0
AreReached lists fresh rows = (first : ℕ) → IfSome (get nat_eq rows first) (IsRowOf lists fresh first)

-- the row has some of these numbers
abbrev pub HasSome : List ℕ → List ℕ → Type 0
HasSome row numbers = (n : ℕ) × IsAmong numbers n × HasBit row n

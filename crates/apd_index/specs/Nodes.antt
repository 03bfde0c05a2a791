-- Nodes: what is kept of a symbol that atoms have at a position, by its mark. The columns of its arguments have numbers.
use Rattle.std.specs.Prelude.{ℕ, ◌≡◌, ◌+◌, ◌-◌, ◌<◌, ◌≤◌, ◌^◌, List, [], Option, None, Some, get_or, length, map, nat_eq}
use Rattle.indexmap.specs.IndexMap.{get}
use Rattle.apd_term.specs.Term.{IsAmong}
use Rattle.apd_marks.specs.declared.positions.Parent.{Parent}
use Rattle.apd_index.specs.Chains.{AreFalling, links_from}
use Rattle.apd_bits.specs.Rows.{HasBits, IsWithin}
use Rattle.apd_index.specs.declared.nodes.PlaceLink.{PlaceLink}
use Rattle.apd_index.specs.declared.nodes.SymbolNode.{SymbolNode}
use Rattle.apd_index.specs.declared.nodes.Nodes.{Nodes}
use Rattle.apd_index.specs.declared.nodes.Slots.{Slots}

-- the places of a chain, the last one first
abbrev pub places : List PlaceLink → ℕ → List ℕ
places links last = map (λ (l : PlaceLink). l.place) (links_from links last)

-- each link tells of one that was there when it was put
abbrev pub HasLinks : List PlaceLink → Type 0
HasLinks links = AreFalling (λ (l : PlaceLink). l.before) links

-- the places of a node's chain, where there is a node
abbrev pub places_of : List PlaceLink → Option SymbolNode → List ℕ
places_of links None = []
places_of links (Some n) = places links n.last

-- the places that are noted for a mark
abbrev pub noted_at : Nodes → ℕ → List ℕ
noted_at nodes mark = places_of nodes.links.items (get nat_eq nodes.nodes mark)

-- each place that was noted is noted still
abbrev pub AreKept : Nodes → Nodes → Type 0
AreKept old new = (m k : ℕ) → IsAmong (noted_at old m) k → IsAmong (noted_at new m) k

-- the founder of a mark: of the places that are noted for it, the first one
abbrev pub founder_of : Option SymbolNode → Option ℕ
founder_of None = None
founder_of (Some n) = Some n.founder

abbrev pub founder_at : Nodes → ℕ → Option ℕ
founder_at nodes mark = founder_of (get nat_eq nodes.nodes mark)

-- the place is the mark's founder
pub record IsFounder (nodes : Nodes) (mark place : ℕ) : Type 0 where
  pub is : founder_at nodes mark ≡ Some place

-- each founder is so still
pub record KeepsFounders (old new : Nodes) : Type 0 where
  pub still : (m k : ℕ) → IsFounder old m k → IsFounder new m k

-- The columns of arguments.

-- the columns have numbers of 32 bits
abbrev pub HaveNumbers : Slots → Type 0
HaveNumbers slots = slots.first + slots.count ≤ 2 ^ 32 - 1

-- the number is that of an argument's column, by the columns of all arguments; the argument is counted from the end
abbrev pub IsNumberIn : Slots → ℕ → ℕ → Type 0
IsNumberIn s left number = (0 < left) × (left ≤ s.count) × (s.first + left ≡ number + 1)

abbrev pub IsNumberOf : Option SymbolNode → ℕ → ℕ → Type 0
IsNumberOf None left number = ⊥
IsNumberOf (Some n) left number = IsNumberIn n.slots left number

-- the number is that of the position's column
abbrev pub IsNumber : Nodes → Parent → ℕ → Type 0
IsNumber nodes p number = IsNumberOf (get nat_eq nodes.nodes p.mark) p.left number

-- positions keep their numbers
abbrev pub KeepsNumbers : Nodes → Nodes → Type 0
KeepsNumbers old new = (p : Parent) (c : ℕ) → IsNumber old p c → IsNumber new p c

-- these are the columns of the arguments of a symbol with the mark
abbrev pub AreSlots : Nodes → ℕ → Slots → Type 0
AreSlots nodes mark s = (left c : ℕ) → IsNumberIn s left c → IsNumber nodes (record { mark = mark; left = left }) c

-- Chains and rows that get more.

-- what was a chain is the same still
abbrev pub KeepChains : List PlaceLink → List PlaceLink → Type 0
KeepChains old new = (length old ≤ length new) × ((last : ℕ) → last ≤ length old → links_from new last ≡ links_from old last)

-- each row has the bits that it had
abbrev pub KeepBits : List (List ℕ) → List (List ℕ) → Type 0
KeepBits old new = (length old ≤ length new) × ((i : ℕ) → IsWithin (get_or old i []) (get_or new i []))

-- the row with this number is there, where there is to be one, and has the bits of the places
abbrev pub HasRow : List (List ℕ) → ℕ → List ℕ → Type 0
HasRow rows number ps = (number ≤ length rows) × (0 < number → HasBits (get_or rows (number - 1) []) ps)

-- What is right of all nodes.

-- the node's chain is there, and the row that it tells has the bits of its places
pub record IsRight (links : List PlaceLink) (rows : List (List ℕ)) (n : SymbolNode) : Type 0 where
  pub within : n.last ≤ length links
  pub row : HasRow rows n.row (places links n.last)

pub record IsSound (nodes : Nodes) : Type 0 where
  pub falling : HasLinks nodes.links.items
  pub right : (m : ℕ) (n : SymbolNode) → get nat_eq nodes.nodes m ≡ Some n → IsRight nodes.links.items nodes.rows.items n
  -- each number is that of one position, and below the next one
  pub below : (p : Parent) (c : ℕ) → IsNumber nodes p c → c < nodes.next
  pub own : (p q : Parent) (c : ℕ) → IsNumber nodes p c → IsNumber nodes q c → p ≡ q

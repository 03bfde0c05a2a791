-- What is noted of atoms: nodes with the columns of positions, and the places of large ones; and that it grows.
use Rattle.std.specs.Prelude.{ℕ, ◌≡◌, ◌⊎◌, ◌≢◌, ◌==◌, ◌++◌, if◌then◌else◌, List, [], ◌∷◌, IsTrue, map, slice_get, Some}
use Rattle.apd_term.specs.Term.{IsAmong}
use Rattle.apd_marks.specs.declared.positions.Parent.{Parent}
use Rattle.apd_index.specs.Columns.{AreColumns, EndsAt, IsIn, KeepsEntries, column_at}
use Rattle.apd_index.specs.Nodes.{AreKept, AreSlots, IsNumberIn, KeepsFounders, KeepsNumbers, IsFounder}
use Rattle.apd_index.specs.Nodes as nodes
use Rattle.apd_index.specs.declared.columns.Columns.{Columns}
use Rattle.apd_index.specs.declared.nodes.Nodes.{Nodes}
use Rattle.apd_index.specs.declared.walk.Open.{Open}
use Rattle.apd_index.specs.declared.walk.Table.{Table}

abbrev pub IsSound : Table → Type 0
IsSound t = nodes.IsSound t.nodes × AreColumns t.columns

-- the places of large atoms are noted still
abbrev pub KeepsLarge : Table → Table → Type 0
KeepsLarge old new = (k : ℕ) → IsAmong old.large.items k → IsAmong new.large.items k

-- what was noted is noted still, founders stay, positions keep their numbers, and columns their entries
pub record Grows (old new : Table) : Type 0 where
  pub sound : IsSound new
  pub kept : AreKept old.nodes new.nodes
  pub founders : KeepsFounders old.nodes new.nodes
  pub large : KeepsLarge old new
  pub numbers : KeepsNumbers old.nodes new.nodes
  pub entries : KeepsEntries old.columns new.columns

-- the same of nodes alone
pub record Grow (old new : Nodes) : Type 0 where
  pub sound : nodes.IsSound new
  pub kept : AreKept old new
  pub founders : KeepsFounders old new
  pub numbers : KeepsNumbers old new

-- all is the same, whatever room there is
pub record AreSame (old new : Table) : Type 0 where
  pub nodes : new.nodes.nodes.entries ≡ old.nodes.nodes.entries
  pub links : new.nodes.links.items ≡ old.nodes.links.items
  pub rows : new.nodes.rows.items ≡ old.nodes.rows.items
  pub next : new.nodes.next ≡ old.nodes.next
  pub heads : new.columns.heads.items ≡ old.columns.heads.items
  pub entries : new.columns.entries.items ≡ old.columns.entries.items
  pub large : new.large.items ≡ old.large.items
  pub given_up : new.is_given_up ≡ old.is_given_up

-- The walk: symbols below which terms are still to be read.

abbrev pub parent_of : Open → Parent
parent_of o = record { mark = o.mark; left = o.left }

abbrev pub parents_of : List Open → List Parent
parents_of opened = map parent_of opened

abbrev pub kept_open : Open → List Open → List Open
kept_open o opened = if o.left == 0 then opened else opened ++ o ∷ []

-- the columns of what is still to be read below a symbol are its own, and where the place is told to be its founder, it is
abbrev pub IsOpen : Nodes → ℕ → Open → Type 0
IsOpen noted place o = AreSlots noted o.mark o.slots × (IsTrue o.is_founder → IsFounder noted o.mark place)

abbrev pub AreOpen : Nodes → ℕ → List Open → Type 0
AreOpen noted place opened = (i : ℕ) (o : Open) → slice_get opened i ≡ Some o → IsOpen noted place o

-- at most an entry of this place with this tag, in the column of a parent's next term, is new
abbrev pub AddsNext : Columns → Open → ℕ → ℕ → Columns → Type 0
AddsNext old o place tag new = (c : ℕ) (e : _) → IsIn (column_at new c) e → IsIn (column_at old c) e ⊎ (IsNumberIn o.slots o.left c × (e.place ≡ place) × (e.tag ≡ tag))

-- the column of a parent's next term got its first entry of the place, and the other columns none
abbrev pub PutsNext : Columns → Open → ℕ → Columns → Type 0
PutsNext old o place new =
    (number : ℕ)
    × IsNumberIn o.slots o.left number
    × ((c : ℕ) → number ≢ c → column_at new c ≡ column_at old c)
    × EndsAt (column_at new number) place
    × (¬ EndsAt (column_at old number) place)

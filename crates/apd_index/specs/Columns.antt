-- Columns by positions: what atoms of a list have there, as digests. Where a variable stands twice in an atom, its instances have
-- equal terms at the two positions: an equality constraint of term indexing (Graf, Term Indexing, 1996).
use Rattle.std.specs.Prelude.{ℕ, ◌≡◌, ◌⊎◌, ◌≤◌, ◌%◌, ◌^◌, List, [], ◌∷◌, Some, IfSome, get_or, length, nat_eq, slice_get}
use Rattle.std.specs.declared.hash.FoldHasher.{FoldHasher}
use Rattle.std.specs.declared.hash.BuildHasherDefault.{BuildHasherDefault}
use Rattle.indexmap.specs.IndexMap.{get, IndexMap}
use Rattle.apd_term.specs.Term.{Term, variable}
use Rattle.apd_term.specs.declared.term.Sym.TheVariants.{Var}
use Rattle.apd_marks.specs.Mixing.{mixed}
use Rattle.apd_marks.specs.declared.positions.Parent.{Parent}
use Rattle.apd_index.specs.Chains.{AreFalling, entries_from}
use Rattle.apd_index.specs.declared.columns.Columns.{Columns}
use Rattle.apd_index.specs.declared.columns.ColumnEntry.{ColumnEntry}
use Rattle.apd_index.specs.declared.columns.Head.{Head}
use Rattle.apd_index.specs.declared.gathered.Gathered.{Gathered}
use Rattle.apd_index.specs.declared.nodes.Nodes.{Nodes}
use Rattle.apd_index.specs.declared.unlike.Repeat.{Repeat}
use Rattle.apd_index.specs.declared.unlike.Unlike.{Unlike}
use Rattle.apd_index.specs.declared.unlike.Unlikes.{Unlikes}
use Rattle.apd_index.specs.Nodes.{IsNumber}
use Rattle.apd_bits.specs.Rows.{HasBit}
use Rattle.apd_index.specs.Subterms.{IsAt, digest}

-- the head of the column with this number
abbrev pub head_at : List Head → ℕ → Head
head_at heads number = get_or heads number (record { last = 0; place = 0 })

-- its entries, the last one first
abbrev pub column_at : Columns → ℕ → List ColumnEntry
column_at columns number = entries_from columns.entries.items (head_at columns.heads.items number).last

-- the last entry is of the place
abbrev pub EndsAt : List ColumnEntry → ℕ → Type 0
EndsAt [] place = ⊥
EndsAt (e ∷ column) place = e.place ≡ place

-- each entry tells of one that was there when it was put
abbrev pub HasEntries : List ColumnEntry → Type 0
HasEntries entries = AreFalling (λ (e : ColumnEntry). e.before) entries

-- each head tells of an entry that is there, and its place
pub record AreColumns (columns : Columns) : Type 0 where
  pub falling : HasEntries columns.entries.items
  pub within : (c : ℕ) → (head_at columns.heads.items c).last ≤ length columns.entries.items
  pub ends : (c place : ℕ) → EndsAt (column_at columns c) place → (head_at columns.heads.items c).place ≡ place

-- the entry stands in the column
abbrev pub IsIn : List ColumnEntry → ColumnEntry → Type 0
IsIn column e = (i : ℕ) × (slice_get column i ≡ Some e)

-- at most an entry of this place with this tag, in one column, is new
abbrev pub AddsAtMost : Columns → ℕ → ℕ → ℕ → Columns → Type 0
AddsAtMost old number place tag new = (c : ℕ) (e : ColumnEntry) → IsIn (column_at new c) e → IsIn (column_at old c) e ⊎ ((number ≡ c) × (e.place ≡ place) × (e.tag ≡ tag))

-- a digest with the place mixed in, of which 32 bits are left
abbrev pub tagged : ℕ → ℕ → ℕ
tagged digest place = mixed digest (Var place) % 2 ^ 32

-- the entry has the tag of what the atom has at the position
abbrev pub Has : Term → Parent → ColumnEntry → Type 0
Has x p e = (t : Term) → IsAt x p t → tagged (digest t) e.place ≡ e.tag

-- what is new in a column are entries of the atom, for a position with this column
abbrev pub AddsOf : Nodes → Columns → Term → ℕ → Columns → Type 0
AddsOf nodes old x place new = (c : ℕ) (e : ColumnEntry) → IsIn (column_at new c) e → IsIn (column_at old c) e ⊎ ((e.place ≡ place) × ((p : Parent) × IsNumber nodes p c × Has x p e))

-- an entry that is right: it has the tag of what the atom of its place has at the position
abbrev pub IsRight : List Term → Parent → ColumnEntry → Type 0
IsRight xs p e = (x : Term) × (slice_get xs e.place ≡ Some x) × Has x p e

-- All entries are right, for a position with their column. A column needn't have an entry for each atom.
abbrev pub HasColumns : List Term → Nodes → Columns → Type 0
HasColumns xs nodes columns = (c : ℕ) (e : ColumnEntry) → IsIn (column_at columns c) e → (p : Parent) × IsNumber nodes p c × IsRight xs p e

-- the two columns have the same tag for the place, as far as they have one
abbrev pub Agree : List ColumnEntry → List ColumnEntry → ℕ → Type 0
Agree ones others place = (e f : ColumnEntry) → IsIn ones e → IsIn others f → e.place ≡ place → f.place ≡ place → e.tag ≡ f.tag

-- wherever a variable of the atom stands twice, the columns agree
abbrev pub IsAlike : Nodes → Columns → Term → ℕ → Type 0
IsAlike nodes columns a place = (p q : Parent) (c d v : ℕ) → IsAt a p (variable v) → IsAt a q (variable v) → IsNumber nodes p c → IsNumber nodes q d → Agree (column_at columns c) (column_at columns d) place

-- each entry that was there is there still
abbrev pub KeepsEntries : Columns → Columns → Type 0
KeepsEntries old new = (p : ℕ) (e : ColumnEntry) → IsIn (column_at old p) e → IsIn (column_at new p) e

-- each column has the same head
abbrev pub HaveSameHeads : List Head → List Head → Type 0
HaveSameHeads old new = (c : ℕ) → head_at new c ≡ head_at old c

-- Pairs of columns. What differs once does so when the columns get more entries.

-- the row has bits of places alone for which the two columns have different tags
abbrev pub AreUnlike : List ColumnEntry → List ColumnEntry → List ℕ → Type 0
AreUnlike ones others row = (k : ℕ) → HasBit row k → ¬ Agree ones others k

abbrev pub IsUnlike : Columns → Unlike → Type 0
IsUnlike columns u = AreUnlike (column_at columns u.one) (column_at columns u.other) u.row

abbrev pub Pairs : Type 0
Pairs = IndexMap ℕ Unlike (BuildHasherDefault FoldHasher)

abbrev pub HasPairs : Columns → Pairs → Type 0
HasPairs columns pairs = (key : ℕ) → IfSome (get nat_eq pairs key) (IsUnlike columns)

-- all of these stand in the column
abbrev pub AreIn : List ColumnEntry → List ColumnEntry → Type 0
AreIn column entries = (e : ColumnEntry) → IsIn entries e → IsIn column e

abbrev pub Gatherings : Type 0
Gatherings = IndexMap ℕ Gathered (BuildHasherDefault FoldHasher)

-- what is gathered of a column stands in it
abbrev pub HasGathered : Columns → Gatherings → Type 0
HasGathered columns gatherings = (c : ℕ) → IfSome (get nat_eq gatherings c) (λ (g : Gathered). AreIn (column_at columns c) g.entries.items)

-- what is kept of pairs is right
pub record HasUnlikes (columns : Columns) (u : Unlikes) : Type 0 where
  pub pairs : HasPairs columns u.pairs
  pub gathered : HasGathered columns u.gatherings

-- a row gets bits of places alone for which the two columns have different tags
abbrev pub AddsUnlike : List ColumnEntry → List ColumnEntry → List ℕ → List ℕ → Type 0
AddsUnlike ones others old new = (k : ℕ) → HasBit new k → HasBit old k ⊎ (¬ Agree ones others k)

-- the atom has the variable at a position with this column
abbrev pub IsFor : Nodes → Term → ℕ → ℕ → Type 0
IsFor nodes a v number = (p : Parent) × IsAt a p (variable v) × IsNumber nodes p number

-- the atom has the same variable at positions with two columns
abbrev pub IsRepeat : Nodes → Term → Repeat → Type 0
IsRepeat nodes a r = (v : ℕ) × IsFor nodes a v r.one × IsFor nodes a v r.other

abbrev pub AreRepeats : Nodes → Term → List Repeat → Type 0
AreRepeats nodes a rs = (i : ℕ) (r : Repeat) → slice_get rs i ≡ Some r → IsRepeat nodes a r

-- The columns of the first positions of variables.

abbrev pub Firsts : Type 0
Firsts = IndexMap ℕ ℕ (BuildHasherDefault FoldHasher)

-- at most this column of the variable is new
abbrev pub PutsFirst : Firsts → ℕ → ℕ → Firsts → Type 0
PutsFirst old v number new = (w p : ℕ) → get nat_eq new w ≡ Some p → (get nat_eq old w ≡ Some p) ⊎ ((v ≡ w) × (number ≡ p))

-- at most the variable's first column with this one is new
abbrev pub PutsRepeat : Firsts → ℕ → ℕ → List Repeat → List Repeat → Type 0
PutsRepeat firsts v number old new = (i : ℕ) (r : Repeat) → slice_get new i ≡ Some r → (slice_get old i ≡ Some r) ⊎ ((get nat_eq firsts v ≡ Some r.one) × (number ≡ r.other))

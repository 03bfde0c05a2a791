-- Chains in one vector: an element tells which one is before it. They are counted from 1, and 0 is none; what is put later changes no chain.
use Rattle.std.specs.Prelude.{ℕ, ◌≡◌, ◌+◌, ◌≤◌, ◌==◌, if◌then◌else◌, List, [], ◌∷◌, Some, length, reverse, slice_get}
use Rattle.apd_index.specs.declared.columns.ColumnEntry.{ColumnEntry}
use Rattle.apd_index.specs.declared.nodes.PlaceLink.{PlaceLink}

-- the elements of a chain, the last one first, among elements of which the newest is first
abbrev pub chain : {X : Type 0} → (X → ℕ) → List X → ℕ → List X
chain before [] last = []
chain before (x ∷ older) last = if last == length older + 1 then x ∷ chain before older (before x) else chain before older last

abbrev pub links_from : List PlaceLink → ℕ → List PlaceLink
links_from links last = chain (λ (l : PlaceLink). l.before) (reverse links) last

abbrev pub entries_from : List ColumnEntry → ℕ → List ColumnEntry
entries_from entries last = chain (λ (e : ColumnEntry). e.before) (reverse entries) last

-- each element tells of one that was there when it was put
abbrev pub AreFalling : {X : Type 0} → (X → ℕ) → List X → Type 0
AreFalling before xs = (i : ℕ) (x : _) → slice_get xs i ≡ Some x → before x ≤ i

-- Atoms that are found by their marks.
use Rattle.std.specs.Prelude.{ℕ, ◌≡◌, ◌⊎◌, ◌&&◌, Bool, true, false, List, Option, None, Some, slice_get}
use Rattle.std.specs.List.{list_any}
use Rattle.apd_term.specs.Term.{Term, IsAmong}
use Rattle.apd_term.specs.Matching.{is_instance}
use Rattle.apd_marks.specs.Places.{Index, places_at}
use Rattle.apd_marks.specs.Positions.{IsLasting, marks_of, whole}
use Rattle.apd_index.specs.declared.waiting.Known.{Known}
use Rattle.apd_index.specs.declared.walk.Table.{Table}
use Rattle.apd_index.specs.Spots.{IsNotedAbove}
use Rattle.apd_bits.specs.Rows.{has_bit}

-- some of the atoms is an instance of this one
abbrev pub has_special : List Term → Term → Bool
has_special xs a = list_any (λ (x : Term). is_instance x a) xs

-- this one is an instance of some of the atoms
abbrev pub has_general : List Term → Term → Bool
has_general xs a = list_any (is_instance a) xs

-- Of an atom at a place, where there may be none.

abbrev pub is_below : Term → Option Term → Bool
is_below a None = false
is_below a (Some x) = is_instance x a

abbrev pub is_above : Term → Option Term → Bool
is_above a None = false
is_above a (Some x) = is_instance a x

-- each place that was noted is noted still
abbrev pub AreKeptIn : Index → Index → Type 0
AreKeptIn old new = (m k : ℕ) → IsAmong (places_at old m) k → IsAmong (places_at new m) k

-- each atom's place is noted for the mark of the whole
abbrev pub AreWholes : List Term → Index → Type 0
AreWholes xs wholes = (k : ℕ) (x : Term) → slice_get xs k ≡ Some x → IsAmong (places_at wholes (whole x)) k

-- the place is noted for a mark of the atom that its instances have too; so it is for a mark of each instance
pub record IsNotedBelow (places : Index) (k : ℕ) (x : Term) : Type 0 where
  pub mark : ℕ
  pub lasting : IsLasting x mark
  pub noted : IsAmong (places_at places mark) k

-- the place is noted for the atom's symbols, but constants below one of which it is the founder; or it is that of a large atom
abbrev pub IsNoted : Table → ℕ → Term → Type 0
IsNoted table k x = IsNotedAbove table.nodes k x ⊎ IsAmong table.large.items k

-- the mark of the atom's root symbol, which its marks begin with; a variable has none
abbrev pub root_mark : Term → Option ℕ
root_mark x = slice_get (marks_of x) 0

-- the place waits at the mark of the atom's root symbol, which each instance of an atom has too, unless that is a variable
abbrev pub Waits : Index → ℕ → Term → Type 0
Waits waiting k x = (m : ℕ) × (root_mark x ≡ Some m) × IsAmong (places_at waiting m) k

-- the place is noted, or it waits
abbrev pub IsKnown : Known → ℕ → Term → Type 0
IsKnown known k x = IsNoted known.table k x ⊎ Waits known.waiting k x

-- each place that waited does so still, unless at this mark
abbrev pub AreKeptBut : ℕ → Index → Index → Type 0
AreKeptBut mark old new = (m k : ℕ) → IsAmong (places_at old m) k → (mark ≡ m) ⊎ IsAmong (places_at new m) k

-- the atoms at these places are noted
abbrev pub AreNoted : List Term → Table → List ℕ → Type 0
AreNoted xs table ks = (k : ℕ) (x : Term) → IsAmong ks k → slice_get xs k ≡ Some x → IsNoted table k x

-- What is noted of each atom of a list; a place may be noted where there is no atom.

abbrev pub AreGenerals : List Term → Index → Type 0
AreGenerals xs places = (k : ℕ) (x : Term) → slice_get xs k ≡ Some x → IsNotedBelow places k x

abbrev pub AreSpecials : List Term → Known → Type 0
AreSpecials xs known = (k : ℕ) (x : Term) → slice_get xs k ≡ Some x → IsKnown known k x

-- Of the places that have their bit in a row.

-- the atom there is an instance of this one
abbrev pub is_left_below : List Term → List ℕ → Term → ℕ → Bool
is_left_below xs row a k = has_bit row k && is_below a (slice_get xs k)

abbrev pub SomeLeft : List Term → List ℕ → Term → Type 0
SomeLeft xs row a = (k : ℕ) × (is_left_below xs row a k ≡ true)

abbrev pub NoneLeft : List Term → List ℕ → Term → Type 0
NoneLeft xs row a = (k : ℕ) → is_left_below xs row a k ≡ false

-- The frames that links over a store are, and what is kept of the store.
use Rattle.std.specs.Prelude.{◌≡◌, ℕ, ◌≤◌, [], length}
use Rattle.apd_cells.specs.declared.front.Front.{Front}
use Rattle.apd_cells.specs.Store.{Keeps, at_mark}
use Rattle.apd_cells.specs.Undone.{undone}
use Rattle.apd_frames.specs.declared.linked.Linked.{Linked}
use Rattle.apd_frames.specs.Kept.{Kept}
use Rattle.apd_frames.specs.Linked.{frames_at, saved_of, IsFramed}

-- the frames from the innermost link outwards, and those at each branch
abbrev pub frames_of : Linked → Kept
frames_of l = record { current = frames_at l.store l.links l.innermost; saved = saved_of l.store l.links l.notes }

-- the links and notes are right
abbrev pub AreFramed : Linked → Type 0
AreFramed l = IsFramed l.store l.links l.innermost l.notes

-- the store, the links and the notes are what they were
pub record IsSame (old new : Linked) : Type 0 where
  pub store : new.store ≡ old.store
  pub links : new.links ≡ old.links
  pub innermost : new.innermost ≡ old.innermost
  pub notes : new.notes ≡ old.notes

-- the store had nothing when its trail had no note
abbrev pub BeginsEmpty : Linked → Type 0
BeginsEmpty l = at_mark 0 l.store ≡ record { cells = []; variables = 0; trail = [] }

-- the store is what it was when its trail was as long
abbrev pub KeepsStore : Linked → Linked → Type 0
KeepsStore old new = Keeps old.store new.store

-- the store is what undoing leaves of it at an earlier mark, where this front of the cells is kept
abbrev pub GoesBack : Front → Linked → Linked → Type 0
GoesBack kept old new = (k : ℕ) × (k ≤ length old.store.trail) × (new.store ≡ undone kept k old.store)

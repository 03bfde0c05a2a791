-- A journal that has followed a store for a part of the way, and what is kept of the store.
use Rattle.std.specs.Prelude.{◌≡◌, ℕ, ◌≤◌, List, [], ◌∷◌, ◌++◌, length, take, true}
use Rattle.std.specs.Bool.{OnTrue}
use Rattle.apd_cells.specs.declared.front.Front.{Front}
use Rattle.apd_cells.specs.declared.heap.TrailNote.{TrailNote}
use Rattle.apd_cells.specs.declared.heap.TrailNote.TheVariants.{Loaded, Bound}
use Rattle.apd_cells.specs.declared.heap.Binding.TheVariants.{Free}
use Rattle.apd_cells.specs.Stored.{Stored}
use Rattle.apd_cells.specs.Store.{at_mark, binding_of, IsSound}
use Rattle.apd_cells.specs.Undone.{undone}
use Rattle.apd_past.specs.Done.{Done}
use Rattle.apd_past.specs.Follows.{Follows, bindings_in}
use Rattle.apd_past.specs.History.{History, bindings_of, history_of, IsRightHistory}
use Rattle.apd_following.specs.declared.tie.Tie.{Tie}

-- what is kept of the store
abbrev pub front_of : Tie → Front
front_of t = record { cells = t.cells; variables = t.journal.variables }

-- the history of what is kept
abbrev pub past_of : Tie → Stored → History
past_of t s = history_of (take t.cells s.cells) t.journal

-- the journal follows the store to where its trail had k notes
pub record FollowsTo (k : ℕ) (d : Done) (s : Stored) : Type 0 where
  pub there : k ≤ length s.trail
  pub follows : Follows d (at_mark k s)

-- each binding was right among the cells that are kept, and the journal follows the store so far, unless it was given up
pub record IsTied (t : Tie) (s : Stored) : Type 0 where
  pub within : t.cells ≤ length s.cells
  pub right : IsRightHistory (past_of t s)
  pub follows : OnTrue t.holds (FollowsTo t.followed t.journal s)

-- there is nothing that it hasn't followed, and nothing that isn't kept
pub record IsLevel (t : Tie) (s : Stored) : Type 0 where
  pub holds : t.holds ≡ true
  pub notes : length s.trail ≤ t.followed
  pub cells : length s.cells ≤ t.cells

-- the store went back to an earlier mark, but for what is kept
pub record IsBack (t : Tie) (now : Stored) : Type 0 where
  pub before : Stored
  pub sound : IsSound before
  pub tied : IsTied t before
  pub mark : ℕ
  pub there : mark ≤ length before.trail
  pub is : now ≡ undone (front_of t) mark before

-- the variables of these bindings are free after those notes
abbrev pub AreFree : List TrailNote → List TrailNote → Type 0
AreFree [] notes = Unit {0}
AreFree (Loaded c n ∷ newer) notes = AreFree newer notes
AreFree (Bound v c ∷ newer) notes = (binding_of notes v ≡ Free) × AreFree newer notes

-- the journal has the store's bindings, and newer ones of variables that are free there
pub record IsAhead (d : Done) (s : Stored) : Type 0 where
  pub newer : List TrailNote
  pub bindings_are : bindings_of d ≡ newer ++ bindings_in s.trail
  pub free : AreFree newer s.trail

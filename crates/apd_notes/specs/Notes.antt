-- Notes of the way back, and how they are kept.
use Rattle.std.specs.Prelude.{◌≡◌, ℕ, ◌+◌, ◌-◌, ◌%◌, ◌<◌, ◌≤◌, ltb, List, [], ◌∷◌, drop, slice_get, Some, if◌then◌else◌}
use Rattle.apd_notes.specs.declared.notes.Branch.{Branch}
use Rattle.apd_notes.specs.declared.notes.Note.{Note}
use Rattle.apd_notes.specs.declared.notes.Note.TheVariants.{Saved, Handed}
use Rattle.apd_notes.specs.declared.notes.NoteRow.{NoteRow}

-- the number of the link that an exit was handed to by the newest of these rows, which stands first, where it is of such an
-- exit; 0 where there is none
abbrev pub handed_to : List NoteRow → ℕ
handed_to [] = 0
handed_to (r ∷ older) = r.second % 2147483648

abbrev pub branch_in : ℕ → ℕ → ℕ → Branch
branch_in mark links k = record { mark = record { 0 = mark }; links = links; innermost = k }

-- the note of a row that stands behind these
abbrev pub note_of : NoteRow → List NoteRow → Note
note_of r older =
    if ltb r.second 1073741824 then Saved (branch_in r.first r.second r.second)
    else (if ltb r.second 2147483648 then Saved (branch_in r.first (r.second - 1073741824) (handed_to older)) else Handed (r.second - 2147483648) r.first)

abbrev pub notes_in : List NoteRow → List Note
notes_in [] = []
notes_in (r ∷ older) = note_of r older ∷ notes_in older

-- the notes without the newest branch
abbrev pub forgotten : List Note → List Note
forgotten [] = []
forgotten (Saved b ∷ ns) = ns
forgotten (Handed k p ∷ ns) = Handed k p ∷ forgotten ns

-- rows of exits that are handed
abbrev pub AreHands : List NoteRow → Type 0
AreHands [] = Unit {0}
AreHands (r ∷ rows) = (2147483648 ≤ r.second) × AreHands rows

-- the newest branch of rows, the oldest first, has this place
pub record IsNewestBranch (rows : List NoteRow) (i : ℕ) : Type 0 where
  pub row : NoteRow
  pub is : slice_get rows i ≡ Some row
  pub branch : row.second < 2147483648
  pub newer : AreHands (drop (i + 1) rows)

-- A line while its bytes come in.
use Rattle.std.specs.Prelude.{ℕ, ◌≡◌, ◌+◌, ◌<◌, ◌≤◌, List, [], ◌∷◌, ◌++◌, length, take, drop, Bool, true, false, if◌then◌else◌}
use Rattle.apd_io.specs.Outside.{Left}
use Rattle.apd_console.specs.declared.draft.Draft.{Draft}
use Rattle.apd_console.specs.Lines.{NoNewline}
use Rattle.apd_console.specs.Console.{Hands, IsOnTime, Kept}
use Rattle.apd_base.specs.declared.limits.TheConstants.{MAX_LINE}

-- the bytes of the line so far are these, or are known to be too many
abbrev pub Drafts : List ℕ → Bool → List ℕ → Type 0
Drafts text true raw = MAX_LINE < length raw
Drafts text false raw = (text ≡ raw) × (length raw ≤ MAX_LINE)

-- the first newline of some bytes stands at this place
pub record IsFirstNewline (bytes : List ℕ) (n : ℕ) : Type 0 where
  pub none : NoNewline (take n bytes)
  pub here : drop n bytes ≡ 10 ∷ drop (n + 1) bytes

-- what a newline, where there is one, parts from the bytes after it
abbrev pub ended_by : Bool → List ℕ → List ℕ
ended_by whole rest = if whole then 10 ∷ rest else rest

-- the kept bytes went to a draft: up to a newline, or all
pub record TakesPart (before after : Kept) (old new : Draft) (whole : Bool) : Type 0 where
  pub piece : List ℕ
  pub none : NoNewline piece
  pub kept : before.kept ≡ piece ++ ended_by whole after.kept
  pub rest : whole ≡ false → after.kept ≡ []
  pub taken : after.taken ≡ before.taken
  pub ended : after.ended ≡ before.ended
  pub draft : (raw : List ℕ) → Drafts old.text old.long raw → Drafts new.text new.long (raw ++ piece)

-- in the middle of a line
pub record Drafted (before now : Kept) (left left_now : Left) (draft : Draft) : Type 0 where
  pub raw : List ℕ
  pub hands : Hands before now left left_now raw
  pub on_time : IsOnTime before left → IsOnTime now left_now
  pub none : NoNewline raw
  pub drafts : Drafts draft.text draft.long raw

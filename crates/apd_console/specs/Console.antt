-- What a console does with the bytes of a source.
use Rattle.std.specs.Prelude.{ℕ, ◌≡◌, ◌+◌, ◌-◌, ◌<◌, ◌≤◌, List, [], ◌++◌, length, Bool, true, false, if◌then◌else◌, ⊤}
use Rattle.apd_io.specs.Outside.{IsOver, Takes}
pub use Rattle.apd_io.specs.Outside.{Left}
use Rattle.apd_console.specs.declared.line.Line.{Line}
use Rattle.apd_console.specs.declared.line.Line.TheVariants.{Text}
use Rattle.apd_console.specs.declared.line.LineEnd.{LineEnd}
use Rattle.apd_console.specs.declared.line.LineEnd.TheVariants.{Ended, ReadFault, InputLimit, Memory}
use Rattle.apd_console.specs.Lines.{InputEnd, AtEnd, AtFault, AtLimit, hear, heard_onto}
use Rattle.apd_console.specs.Lines as lines
use Rattle.apd_base.specs.declared.limits.TheConstants.{MAX_INPUT}

-- a console: the bytes that were taken and not yet handed out, how many were taken, and whether
-- the input has ended
pub record Kept : Type 0 where
  pub kept : List ℕ
  pub taken : ℕ
  pub ended : Bool

-- what holds of every console
pub record IsKept (k : Kept) : Type 0 where
  pub limit : k.taken ≤ MAX_INPUT
  pub below : k.ended ≡ true → k.taken < MAX_INPUT
  pub none : k.ended ≡ true → k.kept ≡ []

-- a console that has taken nothing yet
abbrev pub fresh : Kept
fresh = record { kept = []; taken = 0; ended = false }

-- how many bytes may still be handed out
abbrev pub room_of : Kept → ℕ
room_of k = MAX_INPUT - k.taken + length k.kept

-- after the input's end nothing follows
abbrev pub CanFollow : Bool → List ℕ → InputEnd → Type 0
CanFollow true more ends = (more ≡ []) × (ends ≡ lines.Ended)
CanFollow false more ends = ⊤

-- each read of the source gave a byte, but the one, if any, by which the console knows that the input has ended
abbrev pub IsOnTime : Kept → Left → Type 0
IsOnTime k left = left.late ≤ (if k.ended then 1 else 0)

-- some bytes were taken from the source, and these were handed out
pub record Hands (before after : Kept) (left now : Left) (heard : List ℕ) : Type 0 where
  pub got : List ℕ
  pub consumes : Takes left now got
  pub joins : before.kept ++ got ≡ heard ++ after.kept
  pub counts : after.taken ≡ before.taken + length got
  pub stays : before.ended ≡ true → (after.ended ≡ true) × (heard ≡ [])
  pub over : (before.ended ≡ true → IsOver left) → after.ended ≡ true → IsOver now

-- whatever follows, this is the first line that is heard
pub record HearsLine (before after : Kept) (left now : Left) (line : Line) : Type 0 where
  pub heard : List ℕ
  pub hands : Hands before after left now heard
  pub on_time : IsOnTime before left → IsOnTime after now
  pub goes_on : room_of after < room_of before
  pub fits : (text : List ℕ) → line ≡ Text text → length text + room_of after ≤ room_of before
  pub first : (more : List ℕ) (ends : InputEnd) → CanFollow after.ended more ends →
      hear (room_of before) (heard ++ more) ends ≡ heard_onto line (hear (room_of after) more ends)

-- no line is heard, and why
abbrev pub HearsNone : ℕ → LineEnd → Kept → List ℕ → Type 0
HearsNone room Ended after heard = (after.ended ≡ true) × (after.kept ≡ []) × (hear room heard lines.Ended ≡ record { lines = []; close = AtEnd })
HearsNone room ReadFault after heard = (after.ended ≡ false) × (after.kept ≡ []) × (hear room heard lines.Fails ≡ record { lines = []; close = AtFault })
HearsNone room InputLimit after heard = (more : List ℕ) (ends : InputEnd) → hear room (heard ++ more) ends ≡ record { lines = []; close = AtLimit }
HearsNone room Memory after heard = ⊤

-- whatever follows, no line is heard first but this end; no read is behind one that gave no byte
pub record HearsEnd (before after : Kept) (left now : Left) (end : LineEnd) : Type 0 where
  pub heard : List ℕ
  pub hands : Hands before after left now heard
  pub on_time : IsOnTime before left → now.late ≤ 1
  pub shrinks : room_of after ≤ room_of before
  pub is : HearsNone (room_of before) end after heard

-- a read that failed is counted
abbrev pub is_read_fault : LineEnd → Bool
is_read_fault ReadFault = true
is_read_fault end = false

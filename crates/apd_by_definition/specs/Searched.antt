-- What the plain search makes.
use Rattle.std.specs.Prelude.{◌≡◌, ◌⊎◌, ℕ, ◌≤◌, List, [], ◌∷◌, Option, Some, None, Bool, true, false}
use Rattle.apd_ports.specs.declared.event.Port.TheVariants.{Exit}
use Rattle.apd_ports.specs.declared.point.Step.{Step}
use Rattle.apd_trace.specs.Frames.{left}
use Rattle.apd_trace.specs.Trace.{Out, emit, and_then, at_port, over, point_of, up_to_error}
use Rattle.apd_trace.specs.declared.frame.Called.{Called}
use Rattle.apd_trace.specs.declared.frame.Frame.{Frame}
use Rattle.apd_trace.specs.declared.item.Item.{Item}
use Rattle.apd_trace.specs.declared.item.Item.TheVariants.{Passed, Answer, Made, Error}
use Rattle.apd_by_definition.specs.declared.engine.searched.Searched.{Searched}
use Rattle.apd_by_definition.specs.declared.engine.search.Advance.{Advance}
use Rattle.apd_by_definition.specs.declared.engine.search.Advance.TheVariants.{Full, Ends, Goes}

abbrev pub out_of : Searched → Out
out_of s = record { items = s.items.items; boxes = s.counts.boxes; points = s.counts.points }

-- so many boxes have numbers, and so many points
abbrev pub most_numbers : ℕ
most_numbers = 4294967295

-- it has as many boxes or points as have numbers
abbrev pub IsFull : Out → Type 0
IsFull o = (most_numbers ≤ o.boxes) ⊎ (most_numbers ≤ o.points)

-- this search was made, or it has too many boxes or points
abbrev pub Makes : Option Searched → Out → Type 0
Makes None o = IsFull o
Makes (Some s) o = out_of s ≡ o

-- it goes on from so many boxes and points
abbrev pub IsPast : ℕ → ℕ → Out → Type 0
IsPast n m o = (n ≤ o.boxes) × (m ≤ o.points)

-- a search never takes numbers back
abbrev pub Grows : (ℕ → ℕ → Out) → Type 0
Grows f = (n m : ℕ) → IsPast n m (f n m)

-- the search so far, what follows it, and how it goes on: full; or ended by an error; or made further, and the rest follows
abbrev pub Advances : Out → (ℕ → ℕ → Out) → Advance → Out → (ℕ → ℕ → Out) → Type 0
Advances old all Full new rest = IsFull (and_then old all)
Advances old all Ends new rest = and_then old all ≡ new
Advances old all Goes new rest = and_then old all ≡ and_then new rest

-- whether the item is an error
abbrev pub is_error : Item → Bool
is_error (Passed e) = false
is_error (Answer a) = false
is_error (Made p) = false
is_error (Error e b) = true

-- the innermost frame's point, and then a search
abbrev pub pointed : List Frame → Option Step → Out → Out
pointed [] before o = o
pointed (f ∷ F) before o = emit (point_of f before) o

-- a built-in goal's point and exit, the search that follows them, and Redo and Fail
abbrev pub around : List Frame → Called → Out → Out
around [] g o = o
around (f ∷ F) g o = emit (point_of f None) (emit (at_port Exit (left f F)) (and_then o (over (left f F) g)))

-- the innermost frame's point, and the items up to the first error
abbrev pub traced : List Frame → List Item → List Item
traced [] items = up_to_error items
traced (f ∷ F) items = point_of f None ∷ up_to_error items

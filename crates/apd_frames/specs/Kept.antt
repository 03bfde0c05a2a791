-- The frames that a search keeps.
use Rattle.std.specs.Prelude.{◌≡◌, ℕ, ◌+◌, ◌<◌, ◌^◌, List, [], ◌∷◌, Option, Some, None, Bool, true, false, not, refl}
use Rattle.std.specs.Coded.{Coded, code_by, coded_list, coded×}
use Rattle.apd_frames.specs.Codes.{frame_code}
use Rattle.apd_term.specs.declared.tuple.Tuple.{Tuple}
use Rattle.apd_term.specs.declared.term.Sym.{Sym}
use Rattle.apd_cells.specs.First.{AreClashing, key_of}
use Rattle.apd_trace.specs.Frames.{entering, is_large, left, look_of, point_at}
use Rattle.apd_trace.specs.declared.frame.Look.{Look}
use Rattle.apd_trace.specs.declared.frame.Look.TheVariants.{Nothing, Goal, Exit as Exits, Answer as Answers}
use Rattle.apd_trace.specs.declared.frame.Frame.{Frame}
use Rattle.apd_trace.specs.declared.frame.Called.{Called}
use Rattle.apd_ports.specs.declared.point.Step.{Step}
use Rattle.apd_ports.specs.declared.point.Point.{Point}
use Rattle.apd_trace.specs.Renaming.{AreRenamed}
use Rattle.apd_frames.specs.declared.ahead.Ahead.{Ahead}
use Rattle.apd_frames.specs.declared.ahead.Ahead.TheVariants.{Nothing as Nowhere, Call, Exit, Answer}

-- the current frames, and those saved at earlier choices, the newest first
pub record Kept : Type 0 where
  pub current : List Frame
  pub saved : List (List Frame)

-- the next goal of the innermost frame, called in box n
abbrev pub Calls : List Frame → ℕ → Called → Type 0
Calls F n g = look_of F n ≡ Goal g

-- the goal is called in box n, d deep
pub record IsIn (n d : ℕ) (g : Called) : Type 0 where
  pub box : g.box_no ≡ n
  pub deep : g.depth ≡ d

-- a clause was entered: the frames are those, renamed
pub record HasEntered (entered : Option (List Frame)) (old new : Kept) : Type 0 where
  pub renamed : AreRenamed entered (Some new.current)
  pub saved : new.saved ≡ old.saved

-- it was, or it can't be and nothing changed
abbrev pub Enters : Option (List Frame) → Bool → Kept → Kept → Type 0
Enters entered true old new = HasEntered entered old new
Enters entered false old new = (entered ≡ None) × (new ≡ old)

-- no clause is entered whose first argument begins otherwise than the key says
abbrev pub IsKey : Sym → List Frame → Type 0
IsKey key F =
    (g : Called) (r : Tuple) (c m : ℕ) → AreClashing key (key_of r.head) → entering F g r c m ≡ None

-- whether the innermost frame's instance is too large
abbrev pub is_large_of : List Frame → Bool
is_large_of [] = false
is_large_of (f ∷ F) = is_large f.tuple

-- one more than this depth is a number of 32 bits
abbrev pub MayDeepen : ℕ → Type 0
MayDeepen depth = depth + 1 < 2 ^ 32

-- a goal of the innermost frame may have one more as its depth
abbrev pub MayCall : List Frame → Type 0
MayCall [] = Unit {0}
MayCall (f ∷ F) = MayDeepen f.depth

-- the innermost frame has fewer than 64 goals solved
abbrev pub Takes : List Frame → Type 0
Takes [] = Unit {0}
Takes (f ∷ F) = f.done < 64

-- the innermost frame's box and newest point
abbrev pub newest_of : List Frame → Option (ℕ × ℕ)
newest_of [] = None
newest_of (f ∷ F) = Some (f.box_no, f.point)

-- the innermost frame's head in its box, and its newest point
abbrev pub exit_in : List Frame → Option (Called × ℕ)
exit_in [] = None
exit_in (f ∷ F) = Some (left f F, f.point)

-- what frames do next, without its terms
abbrev pub ahead_of : Look → Ahead
ahead_of Nothing = Nowhere
ahead_of (Goal g) = Call
ahead_of (Exits g e) = Exit g.box_no e
ahead_of (Answers a) = Answer

-- the innermost frame's instance isn't too large
abbrev pub fits : List Frame → Bool
fits F = not (is_large_of F)

-- the innermost frame as a point
abbrev pub point_in : List Frame → Option Step → Option Point
point_in [] before = None
point_in (f ∷ F) before = Some (point_at f before)

-- the innermost frame as a point, or none where its instance is too large
abbrev pub Points : Option Point → List Frame → Option Step → Type 0
Points None F before = is_large_of F ≡ true
Points (Some p) F before = (is_large_of F ≡ false) × (Some p ≡ point_in F before)

-- kept frames are stored as the pair of their parts
abbrev pub kept_code : Coded Kept
kept_code =
    code_by
    (List Frame × List (List Frame))
    (coded× (coded_list frame_code) (coded_list (coded_list frame_code)))
    (λ k. (k.current, k.saved))
    (λ p. record { current = p.0; saved = p.1 })
    (λ _. refl)

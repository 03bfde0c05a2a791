-- Frames, and tuples that were kept of them.
use Rattle.std.specs.Prelude.{◌≡◌, ◌≢◌, ℕ, Option, Some, None, true, false, List, [], ◌∷◌, ◌++◌, length, refl}
use Rattle.std.specs.Coded.{Coded, code_by, coded_list, coded×}
use Rattle.apd_term.specs.Term.{Term, size}
use Rattle.apd_term.specs.Tuple.{canonical_tuple}
use Rattle.apd_term.specs.declared.tuple.Tuple.{Tuple}
use Rattle.apd_clauses.specs.Codes.{tuple_code}
use Rattle.apd_tuples.specs.declared.spots.Fact.{Fact}
use Rattle.apd_tuples.specs.Tuples.{Holds}
use Rattle.apd_following.specs.declared.following.KeptFrame.{KeptFrame}
use Rattle.apd_trace.specs.Frames.{next_goal}
use Rattle.apd_trace.specs.declared.frame.Frame.{Frame}
use Rattle.apd_frames.specs.Codes.{frame_code}
use Rattle.apd_frames.specs.Kept.{Kept, is_large_of}

-- the current frames, those saved at earlier choices, and the tuples that were kept, the oldest first
pub record Followed : Type 0 where
  pub current : List Frame
  pub saved : List (List Frame)
  pub tuples : List Tuple

-- without the tuples
abbrev pub kept_of : Followed → Kept
kept_of f = record { current = f.current; saved = f.saved }

abbrev pub followed_code : Coded Followed
followed_code =
    code_by
    (List Frame × (List (List Frame) × List Tuple))
    (coded× (coded_list frame_code) (coded× (coded_list (coded_list frame_code)) (coded_list tuple_code)))
    (λ f. (f.current, (f.saved, f.tuples)))
    (λ p. record { current = p.0; saved = p.1.0; tuples = p.1.1 })
    (λ _. refl)

-- what is known of the innermost frame's tuple is so
abbrev pub HoldsInnermost : Fact → List Frame → Type 0
HoldsInnermost fact [] = Unit {0}
HoldsInnermost fact (f ∷ F) = Holds fact (canonical_tuple f.tuple)

-- the innermost frame's tuple stands behind the others, in canonical form, with this number and so many goals; and the rest of what is told of the frame
pub record IsKept (n : KeptFrame) (F : List Frame) (old new : List Tuple) : Type 0 where
  pub frame : Frame
  pub around : List Frame
  pub is : F ≡ frame ∷ around
  pub more : new ≡ old ++ canonical_tuple frame.tuple ∷ []
  pub number : n.tuple.number ≡ length old
  pub goals : n.tuple.goals ≡ length frame.tuple.body
  pub owner : n.owner ≡ frame.box_no
  pub clause : n.clause ≡ frame.clause
  pub done : n.done ≡ frame.done

-- the innermost frame's tuple was kept behind the others, or it is too large and nothing changed
abbrev pub KeepsInstance : Option KeptFrame → List Frame → List Tuple → List Tuple → Type 0
KeepsInstance None F old new = (is_large_of F ≡ true) × (new ≡ old)
KeepsInstance (Some n) F old new = (is_large_of F ≡ false) × IsKept n F old new

-- so many symbols has the next goal, unless the number is 0
abbrev pub IsGoalSized : ℕ → List Frame → Type 0
IsGoalSized n F = (a : Term) → next_goal F ≡ Some a → n ≢ 0 → n ≡ size a

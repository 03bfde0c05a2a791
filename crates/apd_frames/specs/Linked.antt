-- Frames that are linked over a store.
use Rattle.std.specs.Prelude.{◌≡◌, ℕ, ◌+◌, ◌-◌, ◌<◌, ◌≤◌, ◌==◌, List, [], ◌∷◌, length, drop, Option, Some, None, if◌then◌else◌}
use Rattle.apd_cells.specs.Stored.{Stored}
use Rattle.apd_unify.specs.declared.store.Cell.{Cell}
use Rattle.apd_cells.specs.Store.{term_at, at_mark}
use Rattle.apd_trace.specs.Frames.{next_goal}
use Rattle.apd_trace.specs.declared.frame.Called.{Called}
use Rattle.apd_trace.specs.declared.frame.Frame.{Frame}
use Rattle.apd_frames.specs.Links.{Instance, Link, link_of}
use Rattle.apd_notes.specs.declared.notes.Note.{Note}
use Rattle.apd_notes.specs.declared.notes.Note.TheVariants.{Saved, Handed}
use Rattle.apd_frames.specs.declared.links.LinkRef.{LinkRef}
use Rattle.apd_frames.specs.Instances.{tuple_in, IsInside}

-- the link with this number, counted from 1 at the oldest; the links are given the newest first
abbrev pub numbered : List Link → ℕ → Option Link
numbered [] k = None
numbered (l ∷ older) k = if k == length older + 1 then Some l else numbered older k

-- the frame of a link, with all bindings applied
abbrev pub frame_in : Stored → Link → Frame
frame_in s l =
    record {
      box_no = l.box_no;
      depth = l.depth;
      clause = l.clause;
      tuple = tuple_in s l.instance;
      done = l.done;
      point = l.point;
    }

-- the link of a clause, or of a built-in goal, for the called goal
abbrev pub entered_link : Called → ℕ → Instance → ℕ → ℕ → Link
entered_link g c i m k =
    record {
      box_no = g.box_no;
      depth = g.depth;
      clause = c;
      instance = i;
      done = 0;
      point = m;
      around = k;
    }

-- the link with so many goals solved, at point m
abbrev pub with_done : ℕ → ℕ → Link → Link
with_done d m l =
    record {
      box_no = l.box_no;
      depth = l.depth;
      clause = l.clause;
      instance = l.instance;
      done = d;
      point = m;
      around = l.around;
    }

-- the link with one more goal solved, at point m
abbrev pub handed_link : ℕ → Link → Link
handed_link m l = with_done (l.done + 1) m l

-- the link with one goal less solved, at point m
abbrev pub taken_link : ℕ → Link → Link
taken_link m l = with_done (l.done - 1) m l

-- the links, that with this number being changed
abbrev pub changed : (Link → Link) → ℕ → List Link → List Link
changed f k [] = []
changed f k (l ∷ older) = if k == length older + 1 then f l ∷ older else l ∷ changed f k older

-- the link with this number, if there is one, has fewer than 64 goals solved
abbrev pub MayHand : List Link → ℕ → Type 0
MayHand links k = (l : Link) → numbered links k ≡ Some l → l.done < 64

-- link k, whose newest point was p, has one more goal solved, at point m
pub record Hands (old new : List Link) (k m p : ℕ) : Type 0 where
  pub link : Link
  pub is : numbered old k ≡ Some link
  pub before : p ≡ link.point
  pub more : new ≡ changed (handed_link m) k old

-- the frames from the link with this number outwards
abbrev pub frames_at : Stored → List Link → ℕ → List Frame
frames_at s [] k = []
frames_at s (l ∷ older) k = if k == length older + 1 then frame_in s l ∷ frames_at s older l.around else frames_at s older k

-- the frames from a link outwards
abbrev pub frames_from : Stored → List Link → LinkRef → List Frame
frames_from s links l = frame_in s (link_of l) ∷ frames_at s links l.around

-- a link's instance is in the cells that are there
abbrev pub IsThere : Stored → LinkRef → Type 0
IsThere s l = IsInside (length s.cells) (link_of l).instance

-- each link's instance is in the first n cells, and the link around it is older
abbrev pub ArePlaced : ℕ → List Link → Type 0
ArePlaced n [] = Unit {0}
ArePlaced n (l ∷ older) = IsInside n l.instance × (l.around ≤ length older) × ArePlaced n older

-- the cell of the next goal of the link with this number, if it has one
abbrev pub IsGoalAt : List Link → ℕ → Option Cell → Type 0
IsGoalAt links k None = (s : Stored) → next_goal (frames_at s links k) ≡ None
IsGoalAt links k (Some c) = ((n : ℕ) → ArePlaced n links → c.0 < n) × ((s : Stored) → next_goal (frames_at s links k) ≡ Some (term_at s c.0))

-- the oldest k of the links
abbrev pub oldest : ℕ → List Link → List Link
oldest k links = drop (length links - k) links

-- the frames at each branch, the newest first: those of its link, in the store and the links as they were there
abbrev pub saved_of : Stored → List Link → List Note → List (List Frame)
saved_of s links [] = []
saved_of s links (Saved b ∷ ns) = frames_at (at_mark b.mark.0 s) (oldest b.links links) b.innermost ∷ saved_of (at_mark b.mark.0 s) (oldest b.links links) ns
saved_of s links (Handed k m ∷ ns) = saved_of s (changed (taken_link m) k links) ns

-- the branches' marks and numbers of links are of earlier and earlier times, when all links were in their places; exits were
-- handed to links that were there
abbrev pub AreMarked : Stored → List Link → List Note → Type 0
AreMarked s links [] = Unit {0}
AreMarked s links (Saved b ∷ ns) =
    (b.mark.0 ≤ length s.trail) × (b.links ≤ length links) × (b.innermost ≤ b.links) × ArePlaced (length (at_mark b.mark.0 s).cells) (oldest b.links links)
    × AreMarked (at_mark b.mark.0 s) (oldest b.links links) ns
AreMarked s links (Handed k m ∷ ns) = (k ≤ length links) × AreMarked s (changed (taken_link m) k links) ns

-- the links as they were at the newest branch, with those that came later, and the notes from it on
abbrev pub links_then : List Link → List Note → List Link
links_then links [] = links
links_then links (Saved b ∷ ns) = links
links_then links (Handed k m ∷ ns) = links_then (changed (taken_link m) k links) ns

abbrev pub notes_then : List Note → List Note
notes_then [] = []
notes_then (Saved b ∷ ns) = Saved b ∷ ns
notes_then (Handed k m ∷ ns) = notes_then ns

-- the links and notes of frames are right
pub record IsFramed (s : Stored) (links : List Link) (innermost : ℕ) (ns : List Note) : Type 0 where
  pub placed : ArePlaced (length s.cells) links
  pub within : innermost ≤ length links
  pub marked : AreMarked s links ns

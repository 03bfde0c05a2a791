-- The frames of a search: the clause instances that it is in, innermost first. Their tuples share their variables.
use Rattle.std.specs.Prelude.{ℕ, ◌+◌, ◌==◌, nat_lt, if◌then◌else◌, Bool, List, [], ◌∷◌, ◌++◌, map, Option, Some, None, slice_get}
use Rattle.apd_term.specs.Term.{Term, variable}
use Rattle.apd_term.specs.Substitution.{term_for}
use Rattle.apd_term.specs.Canonical.{canonical}
use Rattle.apd_term.specs.Tuple.{apply_tuple, variables_of_tuple, canonical_tuple, size_of_tuple}
use Rattle.apd_term.specs.declared.tuple.Tuple.{Tuple}
use Rattle.apd_unify.specs.Textbook.{unifier_of}
use Rattle.apd_trace.specs.declared.frame.Frame.{Frame}
use Rattle.apd_trace.specs.declared.frame.Called.{Called}
use Rattle.apd_trace.specs.declared.frame.Look.{Look}
use Rattle.apd_trace.specs.declared.frame.Look.TheVariants.{Nothing, Goal, Exit as Exits, Answer as Answers}
use Rattle.apd_ports.specs.declared.point.Step.{Step}
use Rattle.apd_ports.specs.declared.point.Point.{Point}
use Rattle.apd_base.specs.declared.limits.TheConstants.{MOST_INSTANCE_SYMBOLS}

-- an instance of a clause may have 1,000,000 symbols
abbrev pub is_large : Tuple → Bool
is_large t = nat_lt MOST_INSTANCE_SYMBOLS (size_of_tuple t)

-- a substitution in a frame's tuple
abbrev pub apply_frame : (ℕ → Term) → Frame → Frame
apply_frame s f =
    record {
      box_no = f.box_no;
      depth = f.depth;
      clause = f.clause;
      tuple = apply_tuple s f.tuple;
      done = f.done;
      point = f.point;
    }

abbrev pub apply_frames : (ℕ → Term) → List Frame → List Frame
apply_frames s F = map (apply_frame s) F

abbrev pub variables_of_frames : List Frame → List ℕ
variables_of_frames [] = []
variables_of_frames (f ∷ F) = variables_of_tuple f.tuple ++ variables_of_frames F

-- a number above each of these
abbrev pub above : List ℕ → ℕ
above [] = 0
above (v ∷ vs) = v + 1 + above vs

abbrev pub shifted_tuple : ℕ → Tuple → Tuple
shifted_tuple base t = apply_tuple (λ v. variable (base + v)) t

-- a clause with its variables renamed apart from those of the frames
abbrev pub apart : List Frame → Tuple → Tuple
apart F c = shifted_tuple (above (variables_of_frames F)) c

-- the leftmost goal of a frame that isn't solved
abbrev pub goal_of : Frame → Option Term
goal_of f = slice_get f.tuple.body f.done

abbrev pub next_goal : List Frame → Option Term
next_goal [] = None
next_goal (f ∷ F) = goal_of f

-- the frame of clause c with this tuple, in the called box, at point m
abbrev pub entered : Called → Tuple → ℕ → ℕ → Frame
entered g t c m =
    record {
      box_no = g.box_no;
      depth = g.depth;
      clause = c;
      tuple = t;
      done = 0;
      point = m;
    }

-- the frames under a unifier, if there is one
abbrev pub under : Option (List (ℕ × Term)) → List Frame → Option (List Frame)
under None F = None
under (Some s) F = Some (apply_frames (term_for s) F)

-- the frame in front of the frames, where its head unifies with the goal
abbrev pub resolved : Option Term → Frame → List Frame → Option (List Frame)
resolved None f F = None
resolved (Some a) f F = under (unifier_of a f.tuple.head) (f ∷ F)

-- a step of resolution: clause r of number c is entered for the called goal, at point m, where its head unifies with the goal
abbrev pub entering : List Frame → Called → Tuple → ℕ → ℕ → Option (List Frame)
entering F g r c m = resolved (next_goal F) (entered g (apart F r) c m) F

-- the frame with one more goal solved, at point m
abbrev pub handed : Frame → ℕ → Frame
handed f m =
    record {
      box_no = f.box_no;
      depth = f.depth;
      clause = f.clause;
      tuple = f.tuple;
      done = f.done + 1;
      point = m;
    }

abbrev pub handed_all : List Frame → ℕ → List Frame
handed_all [] m = []
handed_all (f ∷ F) m = handed f m ∷ F

-- the frames around the innermost one
abbrev pub outer : List Frame → List Frame
outer [] = []
outer (f ∷ F) = F

-- the box that owns the innermost frame
abbrev pub owner_of : List Frame → ℕ
owner_of [] = 0
owner_of (f ∷ F) = f.box_no

-- a goal of the frame, called in box n
abbrev pub called : Frame → Term → ℕ → Called
called f a n = record { box_no = n; caller = f.box_no; depth = f.depth + 1; atom = canonical a }

-- the head of the frame, in its own box
abbrev pub left : Frame → List Frame → Called
left f F = record { box_no = f.box_no; caller = owner_of F; depth = f.depth; atom = canonical f.tuple.head }

abbrev pub look_at : Option Term → Frame → List Frame → ℕ → Look
look_at (Some a) f F n = Goal (called f a n)
look_at None f F n = if f.box_no == 0 then Answers (canonical f.tuple.head) else Exits (left f F) f.point

-- what the innermost frame does next, if the next box has number n: it calls its next goal, or it exits, or it is the query's and answers
abbrev pub look_of : List Frame → ℕ → Look
look_of [] n = Nothing
look_of (f ∷ F) n = look_at (goal_of f) f F n

-- the frame as a point
abbrev pub point_at : Frame → Option Step → Point
point_at f before =
    record {
      owner = f.box_no;
      clause = f.clause;
      done = f.done;
      tuple = canonical_tuple f.tuple;
      before = before;
    }

-- how a point came about: the point that it followed, and the exit
abbrev pub step_from : ℕ → ℕ → Step
step_from p e = record { point = record { 0 = p }; exit = record { 0 = e } }

-- the query is clause 0 in box 0, and its point is point 0
abbrev pub query_frame : Tuple → Frame
query_frame query =
    record {
      box_no = 0;
      depth = 0;
      clause = 0;
      tuple = query;
      done = 0;
      point = 0;
    }

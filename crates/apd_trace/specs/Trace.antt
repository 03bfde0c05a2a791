-- The trace of a query: which ports leftmost depth-first SLD search passes, in order.
use Rattle.std.specs.Prelude.{ℕ, ◌+◌, if◌then◌else◌, List, [], ◌∷◌, ◌++◌, Option, Some, None}
use Rattle.std.proofs.Common.{zero, suc}
use Rattle.apd_term.specs.declared.tuple.Tuple.{Tuple}
use Rattle.apd_causes.specs.declared.run.RunError.TheVariants.{Size}
use Rattle.apd_clauses.specs.Clauses.{clauses_for}
use Rattle.apd_ports.specs.declared.event.Port.{Port}
use Rattle.apd_ports.specs.declared.event.Port.TheVariants.{Call, Exit, Redo, Fail}
use Rattle.apd_trace.specs.Frames.{handed, entering, outer, left, look_of, point_at, step_from, is_large, query_frame}
use Rattle.apd_trace.specs.BuiltIn.{Solution, of_program, faulted, failed, solved, solution}
use Rattle.apd_trace.specs.declared.frame.Frame.{Frame}
use Rattle.apd_trace.specs.declared.frame.Called.{Called}
use Rattle.apd_trace.specs.declared.frame.Look.{Look}
use Rattle.apd_trace.specs.declared.frame.Look.TheVariants.{Nothing, Goal, Exit as Exits, Answer as Answers}
use Rattle.apd_ports.specs.declared.point.Step.{Step}
use Rattle.apd_trace.specs.declared.item.Item.{Item}
use Rattle.apd_trace.specs.declared.item.Item.TheVariants.{Passed, Answer, Made, Error}

-- the items of a search, and how many boxes and points are made after it
pub record Out : Type 0 where
  pub items : List Item
  pub boxes : ℕ
  pub points : ℕ

abbrev pub nothing : ℕ → ℕ → Out
nothing n m = record { items = []; boxes = n; points = m }

-- an item, and then a search
abbrev pub emit : Item → Out → Out
emit i o = record { items = i ∷ o.items; boxes = o.boxes; points = o.points }

-- a search, and then another that goes on with its numbers
abbrev pub and_then : Out → (ℕ → ℕ → Out) → Out
and_then o f =
    record {
      items = o.items ++ (f o.boxes o.points).items;
      boxes = (f o.boxes o.points).boxes;
      points = (f o.boxes o.points).points;
    }

abbrev pub at_port : Port → Called → Item
at_port port g =
    Passed (record { port = port; box_no = g.box_no; caller = g.caller; depth = g.depth; atom = g.atom })

abbrev pub point_of : Frame → Option Step → Item
point_of f before = Made (point_at f before)

-- a search of some frames, from these numbers of boxes and points
abbrev pub Next : Type 0
Next = List Frame → ℕ → ℕ → Out

-- the search comes back to a box that has exited: Redo
abbrev pub again : Called → ℕ → ℕ → Out
again g n m = emit (at_port Redo g) (nothing n m)

-- nothing is left to try for the goal: Fail
abbrev pub closing : Called → ℕ → ℕ → Out
closing g n m = emit (at_port Fail g) (nothing n m)

-- a clause that was entered: an error where its instance is too large, else its point and its search; and then the other clauses
abbrev pub begun : Next → Called → (ℕ → ℕ → Out) → List Frame → ℕ → ℕ → Out
begun next g others [] n m = others n m
begun next g others (f ∷ F) n m =
    if is_large f.tuple
    then emit (Error Size g.box_no) (nothing n m)
    else emit (point_of f None) (and_then (next (f ∷ F) n (m + 1)) others)

abbrev pub tried : Next → Called → (ℕ → ℕ → Out) → Option (List Frame) → ℕ → ℕ → Out
tried next g others None n m = others n m
tried next g others (Some F) n m = begun next g others F n m

-- each of the numbered clauses in turn, and at last Fail
abbrev pub tries : Next → List Frame → Called → List (ℕ × Tuple) → ℕ → ℕ → Out
tries next F g [] n m = closing g n m
tries next F g (c ∷ cs) n m = tried next g (tries next F g cs) (entering F g c.1 c.0 m) n m

-- the exit at point e is handed to the innermost frame: an error where its instance is too large by now, else its point and its search
abbrev pub hand : Next → List Frame → ℕ → ℕ → ℕ → Out
hand next [] e n m = nothing n m
hand next (f ∷ F) e n m =
    if is_large f.tuple
    then emit (Error Size f.box_no) (nothing n m)
    else emit (point_of (handed f m) (Some (step_from f.point e))) (next (handed f m ∷ F) n (m + 1))

-- the search comes back to a built-in goal that has exited: Redo, and Fail
abbrev pub over : Called → Called → ℕ → ℕ → Out
over l g n m = emit (at_port Redo l) (closing g n m)

-- a built-in goal that succeeds: an error where its instance is too large, else its point and its exit, which is handed on
abbrev pub succeeded : Next → Called → List Frame → ℕ → ℕ → Out
succeeded next g [] n m = nothing n m
succeeded next g (f ∷ F) n m =
    if is_large f.tuple
    then emit (Error Size g.box_no) (nothing n m)
    else emit (point_of f None) (emit (at_port Exit (left f F)) (and_then (hand next F f.point n (m + 1)) (over (left f F) g)))

-- what comes of a called goal: its clauses are tried; or a built-in goal ends in an error, fails or succeeds
abbrev pub settled : Next → List (ℕ × Tuple) → List Frame → Called → Solution → ℕ → ℕ → Out
settled next cs F g of_program n m = tries next F g cs n m
settled next cs F g (faulted e) n m = emit (Error e g.box_no) (nothing n m)
settled next cs F g failed n m = closing g n m
settled next cs F g (solved G) n m = succeeded next g G n m

-- what the innermost frame does next
abbrev pub turn : Next → List Tuple → Look → List Frame → ℕ → ℕ → Out
turn next P Nothing F n m = nothing n m
turn next P (Goal g) F n m = emit (at_port Call g) (settled next (clauses_for g.atom P) F g (solution F g m) (n + 1) m)
turn next P (Exits g e) F n m = emit (at_port Exit g) (and_then (hand next (outer F) e n m) (again g))
turn next P (Answers a) F n m = emit (Answer a) (nothing n m)

-- the search from these frames, with n boxes and m points made, at most k ports deep
abbrev pub search_from : List Tuple → ℕ → List Frame → ℕ → ℕ → Out
search_from P zero F n m = nothing n m
search_from P (suc k) F n m = turn (search_from P k) P (look_of F (n + 1)) F n m

-- nothing follows an error
abbrev pub up_to_error : List Item → List Item
up_to_error [] = []
up_to_error (Passed e ∷ xs) = Passed e ∷ up_to_error xs
up_to_error (Answer a ∷ xs) = Answer a ∷ up_to_error xs
up_to_error (Made p ∷ xs) = Made p ∷ up_to_error xs
up_to_error (Error e b ∷ xs) = Error e b ∷ []

-- the trace of a query by the clauses of P, at most k ports deep, which has its items up to the kth port
abbrev pub trace : List Tuple → Tuple → ℕ → List Item
trace P query k = point_of (query_frame query) None ∷ up_to_error (search_from P k (query_frame query ∷ []) 0 1).items

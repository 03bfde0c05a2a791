-- A search numbers boxes and points upwards.
use Rattle.std.proofs.Common.{ℕ, zero, suc, ◌+◌, ◌≤◌, List, [], ◌∷◌, arith, Bool, true, false, Option, Some, None, inl, inr}
use Rattle.std.specs.Prelude.{if◌then◌else◌}
use Rattle.apd_term.specs.declared.tuple.Tuple.{Tuple}
use Rattle.apd_causes.specs.declared.run.RunError.TheVariants.{Size}
use Rattle.apd_clauses.specs.Clauses.{clauses_for}
use Rattle.apd_ports.specs.declared.event.Port.TheVariants.{Exit}
use Rattle.apd_trace.specs.Frames.{step_from, left, is_large, entering, handed, outer, look_of}
use Rattle.apd_trace.specs.Trace.{Out, Next, nothing, emit, and_then, at_port, point_of, begun, tried, tries, hand, over, succeeded, again, settled, turn, search_from}
use Rattle.apd_trace.specs.BuiltIn.{Solution, of_program, faulted, failed, solved, solution}
use Rattle.apd_trace.specs.declared.frame.Frame.{Frame}
use Rattle.apd_trace.specs.declared.frame.Called.{Called}
use Rattle.apd_trace.specs.declared.frame.Look.{Look}
use Rattle.apd_trace.specs.declared.frame.Look.TheVariants.{Nothing, Goal, Exit as Exits, Answer as Answers}
use Rattle.apd_trace.specs.declared.item.Item.TheVariants.{Error}
use Rattle.apd_by_definition.specs.Searched.{Grows, IsFull, IsPast, most_numbers}

past_then : (n m : ℕ) (o : Out) (f : ℕ → ℕ → Out) → IsPast n m o → Grows f → IsPast n m (and_then o f)
past_then n m o f h k = (omega (arith, h.0, (k o.boxes o.points).0), omega (arith, h.1, (k o.boxes o.points).1))

past_here : (n m : ℕ) → IsPast n m (nothing n m)
past_here n m = (omega arith, omega arith)

past_point : (n m : ℕ) (o : Out) → IsPast n (m + 1) o → IsPast n m o
past_point n m o h = (h.0, omega (arith, h.1))

past_either : (n m : ℕ) (b : Bool) (o u : Out) → IsPast n m o → IsPast n m u → IsPast n m (if b then o else u)
past_either n m true o u h k = h
past_either n m false o u h k = k

module _ (next : Next) (grows : (F : List Frame) → Grows (next F)) where
  pub begun_grows : (g : Called) (others : ℕ → ℕ → Out) (F : List Frame) → Grows others → Grows (begun next g others F)
  begun_grows g others [] k n m = k n m
  begun_grows g others (f ∷ F) k n m =
      past_either n m (is_large f.tuple) (emit (Error Size g.box_no) (nothing n m)) (emit (point_of f None) (and_then (next (f ∷ F) n (m + 1)) others))
      (past_here n m) (past_then n m (next (f ∷ F) n (m + 1)) others (past_point n m (next (f ∷ F) n (m + 1)) (grows (f ∷ F) n (m + 1))) k)

  tried_grows : (g : Called) (others : ℕ → ℕ → Out) (o : Option (List Frame)) → Grows others → Grows (tried next g others o)
  tried_grows g others None k n m = k n m
  tried_grows g others (Some F) k n m = begun_grows g others F k n m

  pub tries_grows : (F : List Frame) (g : Called) (cs : List (ℕ × Tuple)) → Grows (tries next F g cs)
  tries_grows F g [] n m = past_here n m
  tries_grows F g (c ∷ cs) n m = tried_grows g (tries next F g cs) (entering F g c.1 c.0 m) (tries_grows F g cs) n m

  pub hand_grows : (F : List Frame) (e : ℕ) → Grows (hand next F e)
  hand_grows [] e n m = past_here n m
  hand_grows (f ∷ F) e n m =
      past_either n m (is_large f.tuple) (emit (Error Size f.box_no) (nothing n m)) (emit (point_of (handed f m) (Some (step_from f.point e))) (next (handed f m ∷ F) n (m + 1)))
      (past_here n m) (past_point n m (next (handed f m ∷ F) n (m + 1)) (grows (handed f m ∷ F) n (m + 1)))

  pub succeeded_grows : (g : Called) (F : List Frame) → Grows (succeeded next g F)
  succeeded_grows g [] n m = past_here n m
  succeeded_grows g (f ∷ F) n m =
      past_either n m (is_large f.tuple) (emit (Error Size g.box_no) (nothing n m)) (emit (point_of f None) (emit (at_port Exit (left f F)) (and_then (hand next F f.point n (m + 1)) (over (left f F) g))))
      (past_here n m) (past_then n m (hand next F f.point n (m + 1)) (over (left f F) g) (past_point n m (hand next F f.point n (m + 1)) (hand_grows F f.point n (m + 1))) past_here)

  settled_grows : (cs : List (ℕ × Tuple)) (F : List Frame) (g : Called) (s : Solution) → Grows (settled next cs F g s)
  settled_grows cs F g of_program n m = tries_grows F g cs n m
  settled_grows cs F g (faulted e) n m = past_here n m
  settled_grows cs F g failed n m = past_here n m
  settled_grows cs F g (solved G) n m = succeeded_grows g G n m

  turn_grows : (P : List Tuple) (look : Look) (F : List Frame) → Grows (turn next P look F)
  turn_grows P Nothing F n m = past_here n m
  turn_grows P (Goal g) F n m =
      let h = settled_grows (clauses_for g.atom P) F g (solution F g m) (n + 1) m in
      (omega (arith, h.0), h.1)
  turn_grows P (Exits g e) F n m = past_then n m (hand next (outer F) e n m) (again g) (hand_grows (outer F) e n m) past_here
  turn_grows P (Answers a) F n m = past_here n m

-- so does a whole search
pub search_grows : (P : List Tuple) (k : ℕ) (F : List Frame) → Grows (search_from P k F)
search_grows P zero F n m = past_here n m
search_grows P (suc k) F n m = turn_grows (search_from P k) (search_grows P k) P (look_of F (n + 1)) F n m

-- a search that begins with no number left, and one that goes on from a full one
pub full_boxes : (n m : ℕ) (o : Out) → most_numbers ≤ n → IsPast n m o → IsFull o
full_boxes n m o h k = inl (omega (arith, k.0))

pub full_points : (n m : ℕ) (o : Out) → most_numbers ≤ m → IsPast n m o → IsFull o
full_points n m o h k = inr (omega (arith, k.1))

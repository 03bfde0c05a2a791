-- A query with renumbered names runs alike by clauses with renumbered names, and its record is alike.
use Rattle.std.proofs.Common.{◌≡◌, ℕ, zero, suc, ◌+◌, ◌-◌, ◌++◌, Bool, true, false, List, [], ◌∷◌, length, map, refl, sym, ◌∙◌, ap, Option, None, Some}
use Rattle.std.specs.Prelude.{if◌then◌else◌}
use Rattle.std.specs.Option.{option_map}
use Rattle.std.proofs.lemmas.List.{map-append, length-map}
use Rattle.apd_causes.specs.declared.run.RunError.TheVariants.{Size}
use Rattle.apd_clauses.specs.Clauses.{clauses_for}
use Rattle.apd_term.specs.declared.tuple.Tuple.{Tuple}
use Rattle.apd_ports.specs.declared.event.Event.{Event}
use Rattle.apd_ports.specs.declared.event.Port.{Port}
use Rattle.apd_ports.specs.declared.event.Port.TheVariants.{Call, Exit, Redo, Fail}
use Rattle.apd_record.specs.Recorded.{Recorded, empty, opened, noted, passed_at, is_none, called_row}
use Rattle.apd_record.specs.declared.rows.BoxRow.{BoxRow}
use Rattle.apd_recorded.specs.Told.{told_port, told, record_from, record_of}
use Rattle.apd_trace.specs.Frames.{entering, outer, handed, left, look_of, step_from, query_frame}
use Rattle.apd_trace.specs.BuiltIn.{Solution, of_program, faulted, failed, solved, solution}
use Rattle.apd_trace.specs.Trace.{Out, Next, nothing, emit, and_then, at_port, point_of, again, begun, tried, tries, hand, over, succeeded, settled, turn, search_from, up_to_error, trace}
use Rattle.apd_trace.specs.Run.{Run, hold, pass, run_of, query_run, ports_of, answers_of, ran_of}
use Rattle.apd_trace.specs.declared.frame.Frame.{Frame}
use Rattle.apd_trace.specs.declared.frame.Called.{Called}
use Rattle.apd_trace.specs.declared.frame.Look.{Look}
use Rattle.apd_trace.specs.declared.frame.Look.TheVariants.{Nothing, Goal, Exit as Exits, Answer as Answers}
use Rattle.apd_trace.specs.declared.item.Item.{Item}
use Rattle.apd_trace.specs.declared.item.Item.TheVariants.{Passed, Answer, Made, Error}
use Rattle.apd_numbering.specs.Renumbering.{Renumbering, renumbered, renumbered_tuple, renumbered_tuples}
use Rattle.apd_numbering.specs.Runs.{renumbered_event, renumbered_point, renumbered_item, renumbered_items, renumbered_run, renumbered_row, renumbered_record}
use Rattle.apd_numbering.proofs.Framed.{renumbered_frames, renumbered_called, renumbered_solution, renumbered_look, entering-renumbered, solution-renumbered, outer-renumbered, left-renumbered, large-renumbered, point-renumbered, look-renumbered}
use Rattle.apd_numbering.proofs.OfPredicates.{clauses_for-renumbered}
use Rattle.apd_numbering.proofs.Values.{builtin-renumbered}

abbrev renumbered_out : (ℕ → ℕ) → Out → Out
renumbered_out r o = record { items = renumbered_items r o.items; boxes = o.boxes; points = o.points }

abbrev renumbered_clause : (ℕ → ℕ) → ℕ × Tuple → ℕ × Tuple
renumbered_clause r c = (c.0, renumbered_tuple r c.1)

-- a search, and then another
then-renumbered : (r : ℕ → ℕ) (o u : Out) (f g : ℕ → ℕ → Out) → o ≡ renumbered_out r u → ((n m : ℕ) → f n m ≡ renumbered_out r (g n m)) → and_then o f ≡ renumbered_out r (and_then u g)
then-renumbered r o u f g e h =
    ap (λ (x : Out). and_then x f) e
    ∙ ap (λ (x : Out). record { items = renumbered_items r u.items ++ x.items; boxes = x.boxes; points = x.points }) (h u.boxes u.points)
    ∙ ap (λ xs. record { items = xs; boxes = (g u.boxes u.points).boxes; points = (g u.boxes u.points).points }) (sym (map-append (renumbered_item r) u.items (g u.boxes u.points).items))

emit-renumbered : (r : ℕ → ℕ) (i j : Item) (o u : Out) → i ≡ renumbered_item r j → o ≡ renumbered_out r u → emit i o ≡ renumbered_out r (emit j u)
emit-renumbered r i j o u e h = ap (λ y. emit y o) e ∙ ap (emit (renumbered_item r j)) h

-- where a test is the same
if-renumbered : (r : ℕ → ℕ) (b c : Bool) (o p u v : Out) → b ≡ c → o ≡ renumbered_out r u → p ≡ renumbered_out r v → (if b then o else p) ≡ renumbered_out r (if c then u else v)
if-renumbered r b c o p u v e f g = ap (λ d. if d then o else p) e ∙ by c
  where
    by : (d : Bool) → (if d then o else p) ≡ renumbered_out r (if d then u else v)
    by true = f
    by false = g

module _ (n : ℕ) (x : Renumbering n) (P : List Tuple) (next after : Next) (h : (F : List Frame) (k m : ℕ) → after (renumbered_frames x.to F) k m ≡ renumbered_out x.to (next F k m)) where
  begun-renumbered : (g : Called) (others others' : ℕ → ℕ → Out) → ((k m : ℕ) → others' k m ≡ renumbered_out x.to (others k m)) → (F : List Frame) (k m : ℕ)
      → begun after (renumbered_called x.to g) others' (renumbered_frames x.to F) k m ≡ renumbered_out x.to (begun next g others F k m)
  begun-renumbered g others others' o [] k m = o k m
  begun-renumbered g others others' o (f ∷ F) k m =
      if-renumbered x.to _ _ _ _ (emit (Error Size g.box_no) (nothing k m)) (emit (point_of f None) (and_then (next (f ∷ F) k (m + 1)) others)) (large-renumbered x.to f.tuple) refl
      (emit-renumbered x.to _ (point_of f None) _ (and_then (next (f ∷ F) k (m + 1)) others) (ap Made (point-renumbered x.to f None)) (then-renumbered x.to _ (next (f ∷ F) k (m + 1)) others' others (h (f ∷ F) k (m + 1)) o))

  tried-renumbered : (g : Called) (others others' : ℕ → ℕ → Out) → ((k m : ℕ) → others' k m ≡ renumbered_out x.to (others k m)) → (o : Option (List Frame)) (k m : ℕ)
      → tried after (renumbered_called x.to g) others' (option_map (renumbered_frames x.to) o) k m ≡ renumbered_out x.to (tried next g others o k m)
  tried-renumbered g others others' e None k m = e k m
  tried-renumbered g others others' e (Some F) k m = begun-renumbered g others others' e F k m

  tries-renumbered : (F : List Frame) (g : Called) (cs : List (ℕ × Tuple)) (k m : ℕ)
      → tries after (renumbered_frames x.to F) (renumbered_called x.to g) (map (renumbered_clause x.to) cs) k m ≡ renumbered_out x.to (tries next F g cs k m)
  tries-renumbered F g [] k m = refl
  tries-renumbered F g (c ∷ cs) k m =
      ap (λ o. tried after (renumbered_called x.to g) (tries after (renumbered_frames x.to F) (renumbered_called x.to g) (map (renumbered_clause x.to) cs)) o k m) (entering-renumbered n x F g c.1 c.0 m)
      ∙ tried-renumbered g (tries next F g cs) (tries after (renumbered_frames x.to F) (renumbered_called x.to g) (map (renumbered_clause x.to) cs)) (tries-renumbered F g cs) (entering F g c.1 c.0 m) k m

  hand-renumbered : (F : List Frame) (e k m : ℕ) → hand after (renumbered_frames x.to F) e k m ≡ renumbered_out x.to (hand next F e k m)
  hand-renumbered [] e k m = refl
  hand-renumbered (f ∷ F) e k m =
      if-renumbered x.to _ _ _ _ (emit (Error Size f.box_no) (nothing k m)) (emit (point_of (handed f m) (Some (step_from f.point e))) (next (handed f m ∷ F) k (m + 1))) (large-renumbered x.to f.tuple) refl
      (emit-renumbered x.to _ (point_of (handed f m) (Some (step_from f.point e))) _ (next (handed f m ∷ F) k (m + 1)) (ap Made (point-renumbered x.to (handed f m) (Some (step_from f.point e)))) (h (handed f m ∷ F) k (m + 1)))

  succeeded-renumbered : (g : Called) (F : List Frame) (k m : ℕ) → succeeded after (renumbered_called x.to g) (renumbered_frames x.to F) k m ≡ renumbered_out x.to (succeeded next g F k m)
  succeeded-renumbered g [] k m = refl
  succeeded-renumbered g (f ∷ F) k m =
      if-renumbered x.to _ _ _ _ (emit (Error Size g.box_no) (nothing k m)) (emit (point_of f None) exits) (large-renumbered x.to f.tuple) refl
      (emit-renumbered x.to _ (point_of f None) _ exits (ap Made (point-renumbered x.to f None))
      (ap (λ (l : Called). emit (at_port Exit l) (and_then (hand after (renumbered_frames x.to F) f.point k (m + 1)) (over l (renumbered_called x.to g)))) (left-renumbered x.to f F)
      ∙ emit-renumbered x.to _ (at_port Exit (left f F)) _ (and_then (hand next F f.point k (m + 1)) (over (left f F) g)) refl
      (then-renumbered x.to _ (hand next F f.point k (m + 1)) (over (renumbered_called x.to (left f F)) (renumbered_called x.to g)) (over (left f F) g) (hand-renumbered F f.point k (m + 1)) (λ i j. refl))))
    where
      exits : Out
      exits = emit (at_port Exit (left f F)) (and_then (hand next F f.point k (m + 1)) (over (left f F) g))

  settled-renumbered : (F : List Frame) (g : Called) (cs : List (ℕ × Tuple)) (s : Solution) (k m : ℕ)
      → settled after (map (renumbered_clause x.to) cs) (renumbered_frames x.to F) (renumbered_called x.to g) (renumbered_solution x.to s) k m ≡ renumbered_out x.to (settled next cs F g s k m)
  settled-renumbered F g cs of_program k m = tries-renumbered F g cs k m
  settled-renumbered F g cs (faulted e) k m = refl
  settled-renumbered F g cs failed k m = refl
  settled-renumbered F g cs (solved G) k m = succeeded-renumbered g G k m

  turn-renumbered : (look : Look) (F : List Frame) (k m : ℕ) → turn after (renumbered_tuples x.to P) (renumbered_look x.to look) (renumbered_frames x.to F) k m ≡ renumbered_out x.to (turn next P look F k m)
  turn-renumbered Nothing F k m = refl
  turn-renumbered (Goal g) F k m =
      emit-renumbered x.to _ (at_port Call g) _ (settled next (clauses_for g.atom P) F g (solution F g m) (k + 1) m) refl
      (ap (λ cs. settled after cs (renumbered_frames x.to F) (renumbered_called x.to g) (solution (renumbered_frames x.to F) (renumbered_called x.to g) m) (k + 1) m) (clauses_for-renumbered n x g.atom P)
      ∙ ap (λ s. settled after (map (renumbered_clause x.to) (clauses_for g.atom P)) (renumbered_frames x.to F) (renumbered_called x.to g) s (k + 1) m) (solution-renumbered n x F g m)
      ∙ settled-renumbered F g (clauses_for g.atom P) (solution F g m) (k + 1) m)
  turn-renumbered (Exits g e) F k m =
      emit-renumbered x.to _ (at_port Exit g) _ (and_then (hand next (outer F) e k m) (again g)) refl
      (then-renumbered x.to _ (hand next (outer F) e k m) (again (renumbered_called x.to g)) (again g)
      (ap (λ G. hand after G e k m) (outer-renumbered x.to F) ∙ hand-renumbered (outer F) e k m) (λ i j. refl))
  turn-renumbered (Answers a) F k m = refl

search-renumbered : (n : ℕ) (x : Renumbering n) (P : List Tuple) (d : ℕ) (F : List Frame) (k m : ℕ)
    → search_from (renumbered_tuples x.to P) d (renumbered_frames x.to F) k m ≡ renumbered_out x.to (search_from P d F k m)
search-renumbered n x P zero F k m = refl
search-renumbered n x P (suc d) F k m =
    ap (λ look. turn (search_from (renumbered_tuples x.to P) d) (renumbered_tuples x.to P) look (renumbered_frames x.to F) k m) (look-renumbered x.to F (k + 1))
    ∙ turn-renumbered n x P (search_from P d) (search_from (renumbered_tuples x.to P) d) (search-renumbered n x P d) (look_of F (k + 1)) F k m

-- Runs.

error-renumbered : (r : ℕ → ℕ) (xs : List Item) → up_to_error (renumbered_items r xs) ≡ renumbered_items r (up_to_error xs)
error-renumbered r [] = refl
error-renumbered r (Passed e ∷ xs) = ap (λ ys. Passed (renumbered_event r e) ∷ ys) (error-renumbered r xs)
error-renumbered r (Answer a ∷ xs) = ap (λ ys. Answer (renumbered r a) ∷ ys) (error-renumbered r xs)
error-renumbered r (Made p ∷ xs) = ap (λ ys. Made (renumbered_point r p) ∷ ys) (error-renumbered r xs)
error-renumbered r (Error e b ∷ xs) = refl

trace-renumbered : (n : ℕ) (x : Renumbering n) (P : List Tuple) (query : Tuple) (d : ℕ) → trace (renumbered_tuples x.to P) (renumbered_tuple x.to query) d ≡ renumbered_items x.to (trace P query d)
trace-renumbered n x P query d =
    ap (λ i. i ∷ up_to_error (search_from (renumbered_tuples x.to P) d (renumbered_frames x.to (query_frame query ∷ [])) 0 1).items) (ap Made (point-renumbered x.to (query_frame query) None))
    ∙ ap (λ (o : Out). renumbered_item x.to (point_of (query_frame query) None) ∷ up_to_error o.items) (search-renumbered n x P d (query_frame query ∷ []) 0 1)
    ∙ ap (λ ys. renumbered_item x.to (point_of (query_frame query) None) ∷ ys) (error-renumbered x.to (search_from P d (query_frame query ∷ []) 0 1).items)

held-renumbered : (r : ℕ → ℕ) (i : Item) (run : Run) → hold (renumbered_item r i) (renumbered_run r run) ≡ renumbered_run r (hold i run)
held-renumbered r i run = by run.passed
  where
    by : (ys : List Item) → hold (renumbered_item r i) (record { passed = renumbered_items r ys; end = run.end }) ≡ renumbered_run r (hold i (record { passed = ys; end = run.end }))
    by [] = refl
    by (y ∷ ys) = refl

run_of-renumbered : (r : ℕ → ℕ) (xs : List Item) (ports answers : ℕ) → run_of (renumbered_items r xs) ports answers ≡ renumbered_run r (run_of xs ports answers)
run_of-renumbered r [] ports answers = refl
run_of-renumbered r (Made p ∷ xs) ports answers = ap (hold (renumbered_item r (Made p))) (run_of-renumbered r xs ports answers) ∙ held-renumbered r (Made p) (run_of xs ports answers)
run_of-renumbered r (Error e b ∷ xs) ports answers = refl
run_of-renumbered r (Passed e ∷ xs) zero answers = refl
run_of-renumbered r (Passed e ∷ xs) (suc ports) answers = ap (pass (renumbered_item r (Passed e))) (run_of-renumbered r xs ports answers)
run_of-renumbered r (Answer a ∷ xs) ports zero = refl
run_of-renumbered r (Answer a ∷ xs) ports (suc zero) = refl
run_of-renumbered r (Answer a ∷ xs) ports (suc (suc answers)) = ap (pass (renumbered_item r (Answer a))) (run_of-renumbered r xs ports (suc answers))

pub run-renumbered : (n : ℕ) (x : Renumbering n) (P : List Tuple) (query : Tuple) (budget answers : ℕ)
    → query_run (renumbered_tuples x.to P) (renumbered_tuple x.to query) budget answers ≡ renumbered_run x.to (query_run P query budget answers)
run-renumbered n x P query budget answers =
    ap (λ xs. run_of xs budget answers) (trace-renumbered n x P query (budget + 1)) ∙ run_of-renumbered x.to (trace P query (budget + 1)) budget answers

ports-renumbered : (r : ℕ → ℕ) (xs : List Item) → ports_of (renumbered_items r xs) ≡ ports_of xs
ports-renumbered r [] = refl
ports-renumbered r (Passed e ∷ xs) = ap (λ k. 1 + k) (ports-renumbered r xs)
ports-renumbered r (Answer a ∷ xs) = ports-renumbered r xs
ports-renumbered r (Made p ∷ xs) = ports-renumbered r xs
ports-renumbered r (Error e b ∷ xs) = ports-renumbered r xs

answers-renumbered : (r : ℕ → ℕ) (xs : List Item) → answers_of (renumbered_items r xs) ≡ answers_of xs
answers-renumbered r [] = refl
answers-renumbered r (Passed e ∷ xs) = answers-renumbered r xs
answers-renumbered r (Answer a ∷ xs) = ap (λ k. 1 + k) (answers-renumbered r xs)
answers-renumbered r (Made p ∷ xs) = answers-renumbered r xs
answers-renumbered r (Error e b ∷ xs) = answers-renumbered r xs

pub ran-renumbered : (r : ℕ → ℕ) (run : Run) → ran_of (renumbered_run r run) ≡ ran_of run
ran-renumbered r run = rw (ports-renumbered r run.passed, answers-renumbered r run.passed) refl

-- Records.

passed_at-renumbered : (r : ℕ → ℕ) (port : Port) (i : ℕ) (bs : List BoxRow) → passed_at port i (map (renumbered_row r) bs) ≡ map (renumbered_row r) (passed_at port i bs)
passed_at-renumbered r port i [] = refl
passed_at-renumbered r port zero (b ∷ bs) = refl
passed_at-renumbered r port (suc i) (b ∷ bs) = ap (λ cs. renumbered_row r b ∷ cs) (passed_at-renumbered r port i bs)

noted-renumbered : (r : ℕ → ℕ) (R : Recorded) (i : ℕ) (port : Port) → noted (renumbered_record r R) i port ≡ renumbered_record r (noted R i port)
noted-renumbered r R zero port = refl
noted-renumbered r R (suc i) port = rw (passed_at-renumbered r port i R.boxes) refl

port-renumbered : (n : ℕ) (x : Renumbering n) (R : Recorded) (e : Event) (port : Port) → told_port (renumbered_record x.to R) (renumbered_event x.to e) port ≡ renumbered_record x.to (told_port R e port)
port-renumbered n x R e Call =
    ap (λ k. opened (renumbered_record x.to R) (renumbered x.to e.atom) (k - 1)) (length-map R.points (renumbered_point x.to))
    ∙ ap (λ o. record { boxes = map (renumbered_row x.to) R.boxes ++ record { atom = renumbered x.to e.atom; from = length R.points - 1; is_user = is_none o; last = Call; complete = false } ∷ []; points = map (renumbered_point x.to) R.points }) (builtin-renumbered n x e.atom)
    ∙ ap (λ bs. record { boxes = bs; points = map (renumbered_point x.to) R.points }) (sym (map-append (renumbered_row x.to) R.boxes (called_row e.atom (length R.points - 1) ∷ [])))
port-renumbered n x R e Exit = noted-renumbered x.to R e.box_no Exit
port-renumbered n x R e Redo = noted-renumbered x.to R e.box_no Redo
port-renumbered n x R e Fail = noted-renumbered x.to R e.box_no Fail

told-renumbered : (n : ℕ) (x : Renumbering n) (R : Recorded) (i : Item) → told (renumbered_record x.to R) (renumbered_item x.to i) ≡ renumbered_record x.to (told R i)
told-renumbered n x R (Passed e) = port-renumbered n x R e e.port
told-renumbered n x R (Answer a) = refl
told-renumbered n x R (Made p) = ap (λ ps. record { boxes = map (renumbered_row x.to) R.boxes; points = ps }) (sym (map-append (renumbered_point x.to) R.points (p ∷ [])))
told-renumbered n x R (Error e b) = refl

from-renumbered : (n : ℕ) (x : Renumbering n) (R : Recorded) (xs : List Item) → record_from (renumbered_record x.to R) (renumbered_items x.to xs) ≡ renumbered_record x.to (record_from R xs)
from-renumbered n x R [] = refl
from-renumbered n x R (i ∷ xs) = ap (λ (s : Recorded). record_from s (renumbered_items x.to xs)) (told-renumbered n x R i) ∙ from-renumbered n x (told R i) xs

pub record-renumbered : (n : ℕ) (x : Renumbering n) (xs : List Item) → record_of (renumbered_items x.to xs) ≡ renumbered_record x.to (record_of xs)
record-renumbered n x xs = from-renumbered n x empty xs

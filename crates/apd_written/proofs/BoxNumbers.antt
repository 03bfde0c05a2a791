-- The number of the box in which an error ends a run: each port opens one box at most, so the number is within the budget.
use Rattle.std.proofs.Common.{◌≡◌, ℕ, zero, suc, ◌+◌, ◌≤◌, ◌==◌, List, [], ◌∷◌, ◌++◌, Bool, true, false, Option, Some, None, subst, arith}
use Rattle.std.specs.Prelude.{if◌then◌else◌}
use Rattle.apd_term.specs.Term.{Term}
use Rattle.apd_term.specs.Substitution.{term_for}
use Rattle.apd_term.specs.declared.tuple.Tuple.{Tuple}
use Rattle.apd_causes.specs.declared.run.RunEnd.TheVariants as ends
use Rattle.apd_causes.specs.declared.run.RunError.{RunError}
use Rattle.apd_causes.specs.declared.run.RunError.TheVariants.{Size}
use Rattle.apd_clauses.specs.Clauses.{clauses_for}
use Rattle.apd_ports.specs.declared.event.Port.{Port}
use Rattle.apd_ports.specs.declared.event.Port.TheVariants.{Call, Exit, Redo, Fail}
use Rattle.apd_trace.specs.declared.frame.Frame.{Frame}
use Rattle.apd_trace.specs.declared.frame.Called.{Called}
use Rattle.apd_trace.specs.declared.frame.Look.{Look}
use Rattle.apd_trace.specs.declared.frame.Look.TheVariants.{Nothing, Goal, Exit as Exits, Answer as Answers}
use Rattle.apd_trace.specs.declared.frame.Outcome.{Outcome}
use Rattle.apd_trace.specs.declared.frame.Outcome.TheVariants.{User, Faults, Fails, Succeeds, Equates}
use Rattle.apd_trace.specs.declared.item.Item.{Item}
use Rattle.apd_trace.specs.declared.item.Item.TheVariants.{Passed, Answer, Made, Error}
use Rattle.apd_trace.specs.Frames.{apply_frames, apart, goal_of, next_goal, entered, under, resolved, entering, handed, outer, left, look_at, look_of, is_large, step_from, query_frame}
use Rattle.apd_trace.specs.BuiltIn.{Solution, of_program, faulted, failed, solved, outcome, built, solved_or, solution_by, solution_at, solution}
use Rattle.apd_trace.specs.Trace.{Out, Next, nothing, emit, and_then, at_port, point_of, begun, tried, tries, hand, over, succeeded, again, settled, turn, search_from, up_to_error, trace}
use Rattle.apd_trace.specs.Run.{run_of, ports_of, query_run}
use Rattle.apd_trace.proofs.Deeper.{ports_of-append}

-- each error's box is no later than there were ports before, after c ports
abbrev Fits : ℕ → List Item → Type 0
Fits c [] = Unit {0}
Fits c (Passed e ∷ xs) = Fits (c + 1) xs
Fits c (Answer a ∷ xs) = Fits c xs
Fits c (Made p ∷ xs) = Fits c xs
Fits c (Error e b ∷ xs) = (b ≤ c) × Fits c xs

same_fits : (c d : ℕ) (xs : List Item) → c ≡ d → Fits c xs → Fits d xs
same_fits c d xs e h = subst (λ k. Fits k xs) e h

fits-append : (c : ℕ) (xs ys : List Item) → Fits c xs → Fits (c + ports_of xs) ys → Fits c (xs ++ ys)
fits-append c [] ys h k = same_fits (c + 0) c ys (omega arith) k
fits-append c (Passed e ∷ xs) ys h k = fits-append (c + 1) xs ys h (same_fits (c + (1 + ports_of xs)) (c + 1 + ports_of xs) ys (omega arith) k)
fits-append c (Answer a ∷ xs) ys h k = fits-append c xs ys h k
fits-append c (Made p ∷ xs) ys h k = fits-append c xs ys h k
fits-append c (Error e b ∷ xs) ys h k = (h.0, fits-append c xs ys h.1 k)

-- after c ports a search has such items, and no more boxes than there are ports then
record IsCounted (c : ℕ) (o : Out) : Type 0 where
  fits : Fits c o.items
  boxes : o.boxes ≤ c + ports_of o.items

nothing-counted : (c n m : ℕ) → n ≤ c → IsCounted c (nothing n m)
nothing-counted c n m l = record { fits = tt; boxes = omega (arith, l) }

port-counted : (c : ℕ) (port : Port) (g : Called) (o : Out) → IsCounted (c + 1) o → IsCounted c (emit (at_port port g) o)
port-counted c port g o h = let l = h.boxes in record { fits = h.fits; boxes = omega (arith, l) }

error-counted : (c : ℕ) (x : Bool) (e : RunError) (b n m : ℕ) (o : Out) → b ≤ c → n ≤ c → IsCounted c o → IsCounted c (if x then emit (Error e b) (nothing n m) else o)
error-counted c true e b n m o l k h = record { fits = (l, tt); boxes = omega (arith, k) }
error-counted c false e b n m o l k h = h

point-counted : (c : ℕ) (f : Frame) (o : Out) → IsCounted c o → IsCounted c (emit (point_of f None) o)
point-counted c f o h = record { fits = h.fits; boxes = h.boxes }

then-counted : (c : ℕ) (o : Out) (f : ℕ → ℕ → Out) → IsCounted c o → ((n m : ℕ) → n ≤ c + ports_of o.items → IsCounted (c + ports_of o.items) (f n m)) → IsCounted c (and_then o f)
then-counted c o f h k =
    let more = (f o.boxes o.points).items in
    let r = k o.boxes o.points h.boxes in
    let l = r.boxes in
    record {
      fits = fits-append c o.items more h.fits r.fits;
      boxes = omega (arith, l, ports_of-append o.items more);
    }

-- Frames, whose boxes were opened.

abbrev AreOpened : ℕ → List Frame → Type 0
AreOpened c [] = Unit {0}
AreOpened c (f ∷ F) = (f.box_no ≤ c) × AreOpened c F

opened-later : (c d : ℕ) (F : List Frame) → c ≤ d → AreOpened c F → AreOpened d F
opened-later c d [] l h = tt
opened-later c d (f ∷ F) l h = let k = h.0 in (omega (arith, l, k), opened-later c d F l h.1)

apply-opened : (c : ℕ) (s : ℕ → Term) (F : List Frame) → AreOpened c F → AreOpened c (apply_frames s F)
apply-opened c s [] h = tt
apply-opened c s (f ∷ F) h = (h.0, apply-opened c s F h.1)

abbrev AreOpenedIf : ℕ → Option (List Frame) → Type 0
AreOpenedIf c None = Unit {0}
AreOpenedIf c (Some F) = AreOpened c F

under-opened : (c : ℕ) (x : Option (List (ℕ × Term))) (F : List Frame) → AreOpened c F → AreOpenedIf c (under x F)
under-opened c None F h = tt
under-opened c (Some s) F h = apply-opened c (term_for s) F h

resolved-opened : (c : ℕ) (o : Option Term) (f : Frame) (F : List Frame) → AreOpened c (f ∷ F) → AreOpenedIf c (resolved o f F)
resolved-opened c None f F h = tt
resolved-opened c (Some a) f F h = under-opened c _ (f ∷ F) h

abbrev IsOpenedSolution : ℕ → Solution → Type 0
IsOpenedSolution c of_program = Unit {0}
IsOpenedSolution c (faulted e) = Unit {0}
IsOpenedSolution c failed = Unit {0}
IsOpenedSolution c (solved F) = AreOpened c F

solved_or-opened : (c : ℕ) (x : Option (List Frame)) → AreOpenedIf c x → IsOpenedSolution c (solved_or x)
solved_or-opened c None h = tt
solved_or-opened c (Some F) h = h

solution_by-opened : (c : ℕ) (o : Outcome) (a : Term) (F : List Frame) (g : Called) (m : ℕ) → g.box_no ≤ c → AreOpened c F → IsOpenedSolution c (solution_by o a F g m)
solution_by-opened c User a F g m l h = tt
solution_by-opened c (Faults e) a F g m l h = tt
solution_by-opened c Fails a F g m l h = tt
solution_by-opened c Succeeds a F g m l h = (l, h)
solution_by-opened c (Equates x y) a F g m l h = solved_or-opened c _ (under-opened c _ (built g a m ∷ F) (l, h))

solution_at-opened : (c : ℕ) (o : Option Term) (F : List Frame) (g : Called) (m : ℕ) → g.box_no ≤ c → AreOpened c F → IsOpenedSolution c (solution_at o F g m)
solution_at-opened c None F g m l h = tt
solution_at-opened c (Some a) F g m l h = solution_by-opened c (outcome a) a F g m l h

-- a goal that is called next has the next box
abbrev IsNextLook : ℕ → Look → Type 0
IsNextLook c Nothing = Unit {0}
IsNextLook c (Goal g) = g.box_no ≤ c
IsNextLook c (Exits g e) = Unit {0}
IsNextLook c (Answers a) = Unit {0}

look_at-next : (c : ℕ) (o : Option Term) (f : Frame) (F : List Frame) (b : ℕ) → b ≤ c → IsNextLook c (look_at o f F b)
look_at-next c (Some a) f F b l = l
look_at-next c None f F b l = either (f.box_no == 0)
  where
    either : (x : Bool) → IsNextLook c (if x then Answers (left f F).atom else Exits (left f F) f.point)
    either true = tt
    either false = tt

look_of-next : (c : ℕ) (F : List Frame) (b : ℕ) → b ≤ c → IsNextLook c (look_of F b)
look_of-next c [] b l = tt
look_of-next c (f ∷ F) b l = look_at-next c (goal_of f) f F b l

outer-opened : (c : ℕ) (F : List Frame) → AreOpened c F → AreOpened c (outer F)
outer-opened c [] h = tt
outer-opened c (f ∷ F) h = h.1

-- Searches.

module _ (next : Next) (next-counted : (F : List Frame) (n m c : ℕ) → n ≤ c → AreOpened c F → IsCounted c (next F n m)) where
  begun-counted : (g : Called) (others : ℕ → ℕ → Out) (F : List Frame) (n m c : ℕ) → n ≤ c → g.box_no ≤ c → AreOpened c F → ((n m d : ℕ) → c ≤ d → n ≤ d → IsCounted d (others n m))
      → IsCounted c (begun next g others F n m)
  begun-counted g others [] n m c l k h rest = rest n m c (omega arith) l
  begun-counted g others (f ∷ F) n m c l k h rest =
      let o = next (f ∷ F) n (m + 1) in
      error-counted c (is_large f.tuple) Size g.box_no n m (emit (point_of f None) (and_then o others)) k l
      (point-counted c f (and_then o others) (then-counted c o others (next-counted (f ∷ F) n (m + 1) c l h) (λ n' m' j. rest n' m' (c + ports_of o.items) (omega arith) j)))

  tried-counted : (g : Called) (others : ℕ → ℕ → Out) (x : Option (List Frame)) (n m c : ℕ) → n ≤ c → g.box_no ≤ c → AreOpenedIf c x → ((n m d : ℕ) → c ≤ d → n ≤ d → IsCounted d (others n m))
      → IsCounted c (tried next g others x n m)
  tried-counted g others None n m c l k h rest = rest n m c (omega arith) l
  tried-counted g others (Some F) n m c l k h rest = begun-counted g others F n m c l k h rest

  closing-counted : (port : Port) (g : Called) (n m c : ℕ) → n ≤ c → IsCounted c (emit (at_port port g) (nothing n m))
  closing-counted port g n m c l = port-counted c port g (nothing n m) (nothing-counted (c + 1) n m (omega (arith, l)))

  tries-counted : (F : List Frame) (g : Called) (cs : List (ℕ × Tuple)) (n m c : ℕ) → n ≤ c → g.box_no ≤ c → AreOpened c F → IsCounted c (tries next F g cs n m)
  tries-counted F g [] n m c l k h = closing-counted Fail g n m c l
  tries-counted F g (x ∷ cs) n m c l k h =
      tried-counted g (tries next F g cs) (entering F g x.1 x.0 m) n m c l k (resolved-opened c (next_goal F) (entered g (apart F x.1) x.0 m) F (k, h))
      (λ n' m' d j i. tries-counted F g cs n' m' d i (omega (arith, k, j)) (opened-later c d F j h))

  hand-counted : (F : List Frame) (e n m c : ℕ) → n ≤ c → AreOpened c F → IsCounted c (hand next F e n m)
  hand-counted [] e n m c l h = nothing-counted c n m l
  hand-counted (f ∷ F) e n m c l h =
      let o = next (handed f m ∷ F) n (m + 1) in
      let r = next-counted (handed f m ∷ F) n (m + 1) c l (h.0, h.1) in
      error-counted c (is_large f.tuple) Size f.box_no n m (emit (point_of (handed f m) (Some (step_from f.point e))) o) h.0 l (record { fits = r.fits; boxes = r.boxes })

  over-counted : (p g : Called) (n m c : ℕ) → n ≤ c → IsCounted c (over p g n m)
  over-counted p g n m c l = port-counted c Redo p (emit (at_port Fail g) (nothing n m)) (closing-counted Fail g n m (c + 1) (omega (arith, l)))

  succeeded-counted : (g : Called) (F : List Frame) (n m c : ℕ) → n ≤ c → g.box_no ≤ c → AreOpened c F → IsCounted c (succeeded next g F n m)
  succeeded-counted g [] n m c l k h = nothing-counted c n m l
  succeeded-counted g (f ∷ F) n m c l k h =
      let o = hand next F f.point n (m + 1) in
      let r = and_then o (over (left f F) g) in
      let d : c ≤ c + 1 = omega arith in
      error-counted c (is_large f.tuple) Size g.box_no n m (emit (point_of f None) (emit (at_port Exit (left f F)) r)) k l
      (point-counted c f (emit (at_port Exit (left f F)) r)
      (port-counted c Exit (left f F) r
      (then-counted (c + 1) o (over (left f F) g) (hand-counted F f.point n (m + 1) (c + 1) (omega (arith, l)) (opened-later c (c + 1) F d h.1)) (λ n' m' j. over-counted (left f F) g n' m' (c + 1 + ports_of o.items) j))))

  settled-counted : (F : List Frame) (g : Called) (cs : List (ℕ × Tuple)) (x : Solution) (n m c : ℕ) → n ≤ c → g.box_no ≤ c → AreOpened c F → IsOpenedSolution c x → IsCounted c (settled next cs F g x n m)
  settled-counted F g cs of_program n m c l k h s = tries-counted F g cs n m c l k h
  settled-counted F g cs (faulted e) n m c l k h s = record { fits = (k, tt); boxes = omega (arith, l) }
  settled-counted F g cs failed n m c l k h s = closing-counted Fail g n m c l
  settled-counted F g cs (solved G) n m c l k h s = succeeded-counted g G n m c l k s

  turn-counted : (P : List Tuple) (look : Look) (F : List Frame) (n m c : ℕ) → n ≤ c → IsNextLook (c + 1) look → AreOpened c F → IsCounted c (turn next P look F n m)
  turn-counted P Nothing F n m c l k h = nothing-counted c n m l
  turn-counted P (Goal g) F n m c l k h =
      let s = solution F g m in
      let later = opened-later c (c + 1) F (omega arith) h in
      port-counted c Call g (settled next (clauses_for g.atom P) F g s (n + 1) m)
      (settled-counted F g (clauses_for g.atom P) s (n + 1) m (c + 1) (omega (arith, l)) k later (solution_at-opened (c + 1) (next_goal F) F g m k later))
  turn-counted P (Exits g e) F n m c l k h =
      let o = hand next (outer F) e n m in
      port-counted c Exit g (and_then o (again g))
      (then-counted (c + 1) o (again g) (hand-counted (outer F) e n m (c + 1) (omega (arith, l)) (opened-later c (c + 1) (outer F) (omega arith) (outer-opened c F h)))
      (λ n' m' j. closing-counted Redo g n' m' (c + 1 + ports_of o.items) j))
  turn-counted P (Answers a) F n m c l k h = record { fits = tt; boxes = omega (arith, l) }

search-counted : (P : List Tuple) (k : ℕ) (F : List Frame) (n m c : ℕ) → n ≤ c → AreOpened c F → IsCounted c (search_from P k F n m)
search-counted P zero F n m c l h = nothing-counted c n m l
search-counted P (suc k) F n m c l h =
    turn-counted (search_from P k) (λ G n' m' d i j. search-counted P k G n' m' d i j) P (look_of F (n + 1)) F n m c l (look_of-next (c + 1) F (n + 1) (omega (arith, l))) h

up_to_error-fits : (c : ℕ) (xs : List Item) → Fits c xs → Fits c (up_to_error xs)
up_to_error-fits c [] h = tt
up_to_error-fits c (Passed e ∷ xs) h = up_to_error-fits (c + 1) xs h
up_to_error-fits c (Answer a ∷ xs) h = up_to_error-fits c xs h
up_to_error-fits c (Made p ∷ xs) h = up_to_error-fits c xs h
up_to_error-fits c (Error e b ∷ xs) h = (h.0, tt)

run-within : (xs : List Item) (c ports answers : ℕ) → Fits c xs → (e : RunError) (b : ℕ) → (run_of xs ports answers).end ≡ ends.Error e b → b ≤ c + ports
run-within [] c ports answers h e b is = absurd (cc)
run-within (Made p ∷ xs) c ports answers h e b is = run-within xs c ports answers h e b is
run-within (Error f d ∷ xs) c ports answers h e b is = let same : d ≡ b = cc in let l = h.0 in omega (arith, l, same)
run-within (Passed p ∷ xs) c zero answers h e b is = absurd (cc)
run-within (Passed p ∷ xs) c (suc ports) answers h e b is = let l = run-within xs (c + 1) ports answers h e b is in omega (arith, l)
run-within (Answer a ∷ xs) c ports zero h e b is = absurd (cc)
run-within (Answer a ∷ xs) c ports (suc zero) h e b is = absurd (cc)
run-within (Answer a ∷ xs) c ports (suc (suc answers)) h e b is = run-within xs c ports (suc answers) h e b is

-- the box of an error that ends a query's run
pub error-within : (P : List Tuple) (query : Tuple) (budget answers : ℕ) (e : RunError) (b : ℕ) → (query_run P query budget answers).end ≡ ends.Error e b → b ≤ budget
error-within P query budget answers e b is =
    let search = search_from P (budget + 1) (query_frame query ∷ []) 0 1 in
    let fits = up_to_error-fits 0 search.items (search-counted P (budget + 1) (query_frame query ∷ []) 0 1 0 (omega arith) (omega arith, tt)).fits in
    let l = run-within (trace P query (budget + 1)) 0 budget answers fits e b is in
    omega (arith, l)

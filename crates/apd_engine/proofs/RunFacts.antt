-- What stays true of a run from one item to the next.
use Rattle.std.proofs.Common.{◌≡◌, ℕ, zero, suc, ◌+◌, ◌-◌, ◌<◌, ◌≤◌, List, [], ◌∷◌, length, refl, ap, subst, sym, ◌∙◌, arith, append-nil, zero-add, inl, inr, Result, Ok}
use Rattle.std.proofs.Math.Nat.{sub-zero}
use Rattle.std.proofs.lemmas.List.{length-map}
use Rattle.apd_term.specs.Term.{Term}
use Rattle.apd_term.specs.declared.tuple.Tuple.{Tuple}
use Rattle.apd_term.specs.Canonical.{by_appearance, canonical_in}
use Rattle.apd_term.specs.Tuple.{canonical_tuple, variables_of_tuple}
use Rattle.apd_ports.specs.Hook.{GoesInto}
use Rattle.apd_ports.specs.declared.event.Event.{Event}
use Rattle.apd_ports.specs.declared.hook.HookFault.{HookFault}
use Rattle.apd_ports.specs.declared.hook.Shown.{Shown}
use Rattle.apd_ports.specs.declared.hook.Shown.TheVariants.{Port as ShownPort, Answer as ShownAnswer}
use Rattle.apd_trace.specs.Frames.{query_frame}
use Rattle.apd_trace.specs.Trace.{Out, search_from}
use Rattle.apd_trace.specs.Run.{Run, run_of, query_run, shown_of, ports_of, ran_of, answers_of, before_event, hold, pass}
use Rattle.apd_trace.specs.declared.item.Item.{Item}
use Rattle.apd_trace.specs.declared.item.Item.TheVariants.{Passed, Answer, Made}
use Rattle.apd_ports.specs.declared.point.Point.{Point}
use Rattle.apd_record.specs.Recorded.{query_point}
use Rattle.apd_trace.proofs.Searched.{search_same}
use Rattle.apd_trace.proofs.Clauses.{canonical_query}
use Rattle.apd_trace.proofs.Deeper.{run_of-up_to_error}
use Rattle.apd_engine.specs.Progress.{left, Going, Completes, Showing}
use Rattle.apd_engine.specs.Search.{Standing, opened, rest, Gives}
use Rattle.apd_engine.specs.declared.search.Mode.TheVariants.{Forward}

-- a silent item is no port, no answer, and is not shown
pub shown_of-hold : (p : Point) (xs : List Item) → shown_of (before_event (Made p) xs) ≡ shown_of xs
shown_of-hold p [] = refl
shown_of-hold p (x ∷ xs) = refl

pub ports_of-hold : (p : Point) (xs : List Item) → ports_of (before_event (Made p) xs) ≡ ports_of xs
ports_of-hold p [] = refl
ports_of-hold p (x ∷ xs) = refl

pub answers_of-hold : (p : Point) (xs : List Item) → answers_of (before_event (Made p) xs) ≡ answers_of xs
answers_of-hold p [] = refl
answers_of-hold p (x ∷ xs) = refl

pub ran_of-hold : (p : Point) (r : Run) → ran_of (hold (Made p) r) ≡ ran_of r
ran_of-hold p r = rw (ports_of-hold, answers_of-hold) refl

-- what is left of a run before an item, and after it
pub left_passed : (P : List Tuple) (budget answers ports answered : ℕ) (s new : Standing) (e : Event) → length s.stack ≤ ports → ports < budget → Gives P s.mode s.frames s.stack s.boxes s.points (Passed e) new → left P budget answers ports answered s ≡ pass (Passed e) (left P budget answers (ports + 1) answered new)
left_passed P budget answers ports answered s new e low within gives =
    let more : budget - ports ≡ suc (budget - (ports + 1)) = omega arith in
    rw (gives.items (budget + 1) (omega arith), more) refl

pub left_answer : (P : List Tuple) (budget answers ports answered : ℕ) (s new : Standing) (a : Term) → length s.stack ≤ ports → ports ≤ budget → answered + 1 < answers → Gives P s.mode s.frames s.stack s.boxes s.points (Answer a) new → left P budget answers ports answered s ≡ pass (Answer a) (left P budget answers ports (answered + 1) new)
left_answer P budget answers ports answered s new a low within more gives =
    let two : answers - answered ≡ suc (suc (answers - (answered + 2))) = omega arith in
    let one : answers - (answered + 1) ≡ suc (answers - (answered + 2)) = omega arith in
    rw (gives.items (budget + 1) (omega arith), two, one) refl

-- before an answer something is left, whether it is the last answer or not
pub some_left : (P : List Tuple) (budget answers ports answered : ℕ) (s new : Standing) (a : Term) → length s.stack ≤ ports → ports ≤ budget → answered < answers → Gives P s.mode s.frames s.stack s.boxes s.points (Answer a) new → (xs : List Item) × ((left P budget answers ports answered s).passed ≡ Answer a ∷ xs)
some_left P budget answers ports answered s new a low within below gives = by_count (answers - answered) refl
  where
    items : rest P (budget + 1) s.mode s.frames s.stack s.boxes s.points ≡ Answer a ∷ rest P (budget + 1) new.mode new.frames new.stack new.boxes new.points
    items = gives.items (budget + 1) (omega (arith, low, within))

    by_count : (n : ℕ) → answers - answered ≡ n → (xs : List Item) × ((left P budget answers ports answered s).passed ≡ Answer a ∷ xs)
    by_count zero e = absurd (omega (arith, below, e))
    by_count (suc zero) e = ([], rw (items, e) refl)
    by_count (suc (suc n)) e = ((run_of (rest P (budget + 1) new.mode new.frames new.stack new.boxes new.points) (budget - ports) (suc n)).passed, rw (items, e) refl)

-- at first all is left
pub first_rest : (P : List Tuple) (query : Tuple) (budget : ℕ) → rest P (budget + 1) Forward (opened query).frames [] 0 1 ≡ (search_from P (budget + 1) (query_frame query ∷ []) 0 1).items
first_rest P query budget = simp (append-nil, sub-zero) (ap (λ (o : Out). o.items) (sym (search_same P (budget + 1) (query_frame query ∷ []) (query_frame (canonical_tuple query) ∷ []) 0 1 (canonical_query query))))

pub left_first : (P : List Tuple) (budget answers ports answered : ℕ) (s t : Standing) → ports ≡ 0 → answered ≡ 0 → s ≡ t → left P budget answers ports answered s ≡ left P budget answers 0 0 t
left_first P budget answers ports answered s t no_ports none is =
    ap (λ n. left P budget answers n answered s) no_ports ∙ ap (λ n. left P budget answers 0 n s) none ∙ ap (left P budget answers 0 0) is

-- the whole run is the query's point, and what is left at first
pub first_run : (P : List Tuple) (query : Tuple) (budget answers : ℕ) → query_run P query budget answers ≡ hold (Made (query_point query)) (left P budget answers 0 0 (opened query))
first_run P query budget answers =
    let later : run_of (search_from P (budget + 1) (query_frame query ∷ []) 0 1).items budget answers ≡ left P budget answers 0 0 (opened query) = rw (first_rest P query budget, sub-zero, sub-zero) refl in
    ap (hold (Made (query_point query))) (run_of-up_to_error (search_from P (budget + 1) (query_frame query ∷ []) 0 1).items budget answers ∙ later)

starts : (P : List Tuple) (query : Tuple) (budget answers : ℕ) (s : Standing) → 0 < answers → length query.body ≤ 64 → s ≡ opened query → Going P budget answers (query_run P query budget answers) 0 0 s
starts P query budget answers s some few is =
    let items = first_rest P query budget in
    let cut = run_of-up_to_error (search_from P (budget + 1) (query_frame query ∷ []) 0 1).items budget answers in
    rw is (record {
      end = rw (cut, items, sub-zero, sub-zero) refl;
      ports_left = rw (cut, items, sub-zero, sub-zero) (rw (ports_of-hold, zero-add) refl);
      answers_left = rw (cut, items, sub-zero, sub-zero) (rw (answers_of-hold, zero-add) refl);
      goes = (omega (arith, few, length-map query.body (canonical_in (by_appearance (variables_of_tuple query)))), omega arith, tt);
      waits = tt;
      height = omega arith;
      boxes = omega arith;
      points = omega arith;
      within = omega arith;
      below = some;
    })

module _ (P : List Tuple) (budget answers : ℕ) (all : Run) (ports answered : ℕ) (s : Standing) (going : Going P budget answers all ports answered s) where
  goes_passed : (new : Standing) (e : Event) → ports < budget → Gives P s.mode s.frames s.stack s.boxes s.points (Passed e) new → Going P budget answers all (ports + 1) answered new
  goes_passed new e more gives =
      let is = left_passed P budget answers ports answered s new e going.height more gives in
      let count = rw is at going.ports_left in
      record {
        end = going.end ∙ ap (λ (r : Run). r.end) is;
        ports_left = omega (arith, count);
        answers_left = rw is at going.answers_left;
        goes = gives.goes;
        waits = gives.waits;
        height = omega (arith, gives.height, going.height);
        boxes = omega (arith, gives.boxes_made, going.boxes);
        points = omega (arith, gives.points_made, gives.pace, going.points);
        within = omega arith;
        below = going.below;
      }

  goes_answer : (new : Standing) (a : Term) → answered + 1 < answers → Gives P s.mode s.frames s.stack s.boxes s.points (Answer a) new → Going P budget answers all ports (answered + 1) new
  goes_answer new a more gives =
      let is = left_answer P budget answers ports answered s new a going.height going.within more gives in
      let count = rw is at going.answers_left in
      record {
        end = going.end ∙ ap (λ (r : Run). r.end) is;
        ports_left = rw is at going.ports_left;
        answers_left = omega (arith, count);
        goes = gives.goes;
        waits = gives.waits;
        height = omega (arith, gives.height, going.height);
        boxes = omega (arith, gives.boxes_made, going.boxes);
        points = omega (arith, gives.points_made, gives.pace, going.points);
        within = going.within;
        below = more;
      }

-- a hook that is shown the next thing
module _ {H : Type 0} (step : H → Shown → Result (Unit {0}) HookFault → H → Type 0) (start : H) (all : List Shown) (here next : H) (x : Shown) (xs : List Shown) (so_far : Completes step start all here (x ∷ xs)) where
  pub shown_next : step here x (Ok tt) next → Completes step start all next xs
  shown_next shown =
      record {
        through = λ end h. so_far.through end (next, shown, h);
        into = λ end h. so_far.into end (inr (next, shown, h));
        stops = λ fault end h. so_far.stops fault end (inr (next, shown, h));
      }

-- a hook that is left alone has gone through some of the things
pub goes_nowhere : {H : Type 0} (step : H → Shown → Result (Unit {0}) HookFault → H → Type 0) (here : H) (xs : List Shown) → GoesInto step here xs here
goes_nowhere step here [] = refl
goes_nowhere step here (x ∷ xs) = inl refl

pub left_alone : {H : Type 0} (step : H → Shown → Result (Unit {0}) HookFault → H → Type 0) (start : H) (all : List Shown) (here : H) (xs : List Shown) → Completes step start all here xs → GoesInto step start all here
left_alone step start all here xs so_far = so_far.into here (goes_nowhere step here xs)

module _ {H : Type 0} (step : H → Shown → Result (Unit {0}) HookFault → H → Type 0) (faults : H → ℕ) (start : H) (P : List Tuple) (budget answers : ℕ) where
  pub starts_showing : (query : Tuple) (s : Standing) → 0 < answers → length query.body ≤ 64 → s ≡ opened query → Showing step faults start P budget answers (query_run P query budget answers) 0 0 s start
  starts_showing query s some few is =
      let going = starts P query budget answers s some few is in
      record {
        going = going;
        completes = rw (run_of-up_to_error (search_from P (budget + 1) (query_frame query ∷ []) 0 1).items budget answers, is, first_rest P query budget, sub-zero, sub-zero) (rw shown_of-hold (record { through = λ end h. h; into = λ end h. h; stops = λ fault end h. h }));
        kept = refl;
      }

  module _ (all : Run) (ports answered : ℕ) (s : Standing) (hook : H) (was : Showing step faults start P budget answers all ports answered s hook) where
    -- where memory is short
    pub memory_short : GoesInto step start (shown_of all.passed) hook
    memory_short = left_alone step start (shown_of all.passed) hook (shown_of (left P budget answers ports answered s).passed) was.completes

    completes_as : (run : Run) → left P budget answers ports answered s ≡ run → Completes step start (shown_of all.passed) hook (shown_of run.passed)
    completes_as run is = subst (λ (r : Run). Completes step start (shown_of all.passed) hook (shown_of r.passed)) is was.completes

    -- a port is shown
    pub shows_port : (new : Standing) (e : Event) (hook' : H) → ports < budget → Gives P s.mode s.frames s.stack s.boxes s.points (Passed e) new → step hook (ShownPort e) (Ok tt) hook' → faults hook' ≡ faults hook → Showing step faults start P budget answers all (ports + 1) answered new hook'
    shows_port new e hook' within gives shown same =
        let later : Run = left P budget answers (ports + 1) answered new in
        record {
          going = goes_passed P budget answers all ports answered s was.going new e within gives;
          completes = shown_next step start (shown_of all.passed) hook hook' (ShownPort e) (shown_of later.passed) (completes_as (pass (Passed e) later) (left_passed P budget answers ports answered s new e was.going.height within gives)) shown;
          kept = same ∙ was.kept;
        }

    -- an answer is shown
    pub shows_answer : (new : Standing) (a : Term) (hook' : H) → answered + 1 < answers → Gives P s.mode s.frames s.stack s.boxes s.points (Answer a) new → step hook (ShownAnswer a) (Ok tt) hook' → faults hook' ≡ faults hook → Showing step faults start P budget answers all ports (answered + 1) new hook'
    shows_answer new a hook' within gives shown same =
        let later : Run = left P budget answers ports (answered + 1) new in
        record {
          going = goes_answer P budget answers all ports answered s was.going new a within gives;
          completes = shown_next step start (shown_of all.passed) hook hook' (ShownAnswer a) (shown_of later.passed) (completes_as (pass (Answer a) later) (left_answer P budget answers ports answered s new a was.going.height was.going.within within gives)) shown;
          kept = same ∙ was.kept;
        }

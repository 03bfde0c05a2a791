-- What the record keeps of a run on the way.
use Rattle.std.proofs.Common.{◌≡◌, ℕ, zero, suc, ◌+◌, ◌-◌, ◌<◌, ◌≤◌, List, [], ◌∷◌, length, length-append, refl, ap, subst, ◌∙◌, arith, Option, Some, None, Result, Err, inl, inr}
use Rattle.apd_term.specs.Term.{Term}
use Rattle.apd_causes.specs.declared.run.RunError.{RunError}
use Rattle.apd_term.specs.declared.tuple.Tuple.{Tuple}
use Rattle.apd_ports.specs.declared.event.Event.{Event}
use Rattle.apd_ports.specs.declared.event.Port.{Port}
use Rattle.apd_ports.specs.declared.event.Port.TheVariants.{Call, Exit, Redo, Fail}
use Rattle.apd_ports.specs.declared.point.Point.{Point}
use Rattle.apd_trace.specs.Run.{Run, run_of, ran_of, query_run, before_event, hold, shown_of, ports_of, answers_of}
use Rattle.apd_ports.specs.Hook.{GoesThrough, GoesInto, StopsAt}
use Rattle.apd_engine.specs.Cut.{IsCut, FailsAt, run_fault}
use Rattle.apd_engine.specs.declared.running.RunFault.{RunFault}
use Rattle.apd_engine.specs.declared.running.RunFault.TheVariants.{WriteFault, Memory}
use Rattle.apd_trace.specs.declared.item.Item.{Item}
use Rattle.apd_trace.specs.declared.item.Item.TheVariants.{Passed, Answer, Made, Error}
use Rattle.apd_record.specs.Recorded.{Recorded, empty, query_point, called_row, noted}
use Rattle.apd_engine.specs.Search.{Standing, opened, rest, Gives, Ends, may_make}
use Rattle.apd_recorded.specs.Told.{told_port, record_from, record_of}
use Rattle.apd_engine.specs.Recording.{newest, MayPass, MayBeToldAll, with_held, told_held, MayBeToldHeld, held_count}
use Rattle.apd_engine.specs.declared.search.Mode.{Mode}
use Rattle.apd_engine.specs.declared.search.Mode.TheVariants.{Forward, Hand, Leave, Back}
use Rattle.apd_engine.specs.Progress.{left, Showing, Completes, Keeping}
use Rattle.apd_engine.proofs.RunFacts.{memory_short, left_passed, left_answer, some_left, first_run, shown_of-hold, ports_of-hold, answers_of-hold}
use Rattle.apd_ports.specs.declared.hook.HookFault.{HookFault}
use Rattle.apd_ports.specs.declared.hook.HookFault.TheVariants.{WriteFault as HookWriteFault, Memory as HookMemory}
use Rattle.apd_ports.specs.declared.hook.Shown.{Shown}
use Rattle.apd_ports.specs.declared.hook.Shown.TheVariants.{Port as ShownPort, Answer as ShownAnswer}
use Rattle.apd_causes.specs.declared.run.RunEnd.TheVariants.{Budget}
use Rattle.apd_record.proofs.Lists.{passed-length}

-- Points that are held back.

recorded_held : (R : Recorded) (held : Option Point) (x : Item) (xs : List Item) → record_from R (with_held held (x ∷ xs)) ≡ record_from (told_held R held) (x ∷ xs)
recorded_held R None x xs = refl
recorded_held R (Some p) x xs = refl

may_held : (R : Recorded) (held : Option Point) (x : Item) (xs : List Item) → MayBeToldAll R (with_held held (x ∷ xs)) → MayBeToldHeld R held × MayBeToldAll (told_held R held) (x ∷ xs)
may_held R None x xs may = (tt, may)
may_held R (Some p) x xs may = may

-- where nothing is left
recorded_end : (R : Recorded) (held : Option Point) → record_from R (with_held held []) ≡ R
recorded_end R None = refl
recorded_end R (Some p) = refl

held_points : (R : Recorded) (held : Option Point) → length (told_held R held).points ≡ length R.points + held_count held
held_points R None = omega arith
held_points R (Some p) = length-append R.points (p ∷ [])

pub held_boxes : (R : Recorded) (held : Option Point) → (told_held R held).boxes ≡ R.boxes
held_boxes R None = refl
held_boxes R (Some p) = refl

noted_points : (R : Recorded) (n : ℕ) (port : Port) → (noted R n port).points ≡ R.points
noted_points R zero port = refl
noted_points R (suc i) port = refl

noted_boxes : (R : Recorded) (n : ℕ) (port : Port) → length (noted R n port).boxes ≡ length R.boxes
noted_boxes R zero port = refl
noted_boxes R (suc i) port = passed-length port i R.boxes

port_points : (R : Recorded) (e : Event) (port : Port) → (told_port R e port).points ≡ R.points
port_points R e Call = refl
port_points R e Exit = noted_points R e.box_no Exit
port_points R e Redo = noted_points R e.box_no Redo
port_points R e Fail = noted_points R e.box_no Fail

port_boxes : (R : Recorded) (e : Event) (port : Port) → length (told_port R e port).boxes ≤ length R.boxes + 1
port_boxes R e Call = omega (arith, length-append R.boxes (called_row e.atom (newest R) ∷ []))
port_boxes R e Exit = omega (arith, noted_boxes R e.box_no Exit)
port_boxes R e Redo = omega (arith, noted_boxes R e.box_no Redo)
port_boxes R e Fail = omega (arith, noted_boxes R e.box_no Fail)

may_make-small : (m : Mode) → may_make m ≤ 1
may_make-small Forward = omega arith
may_make-small (Hand e) = omega arith
may_make-small Leave = omega arith
may_make-small Back = omega arith

-- Steps of a run.

-- at first the query's point is held back
pub keeps_first : (P : List Tuple) (query : Tuple) (budget answers : ℕ) (s : Standing) → s ≡ opened query → MayBeToldAll empty (query_run P query budget answers).passed → Keeping P budget answers (query_run P query budget answers) 0 0 s (Some (query_point query)) empty
keeps_first P query budget answers s is may =
    let first : (query_run P query budget answers).passed ≡ before_event (Made (query_point query)) (left P budget answers 0 0 s).passed =
    rw is (ap (λ (r : Run). r.passed) (first_run P query budget answers)) in
    record {
      may = subst (MayBeToldAll empty) first may;
      agrees = ap record_of first;
      lone = rw is (omega arith);
      points = rw is refl;
      boxes = omega arith;
      begun = rw is (omega arith);
    }

module _ (P : List Tuple) (budget answers : ℕ) (all : Run) (ports answered : ℕ) (s : Standing) (held : Option Point) (R : Recorded) (was : Keeping P budget answers all ports answered s held R) where
  -- where a port is passed next
  module _ (new : Standing) (e : Event) (height : length s.stack ≤ ports) (within : ports < budget) (gives : Gives P s.mode s.frames s.stack s.boxes s.points (Passed e) new) where
    port_left : (left P budget answers ports answered s).passed ≡ Passed e ∷ (left P budget answers (ports + 1) answered new).passed
    port_left = ap (λ (r : Run). r.passed) (left_passed P budget answers ports answered s new e height within gives)

    port_may : MayBeToldHeld R held × MayBeToldAll (told_held R held) (Passed e ∷ (left P budget answers (ports + 1) answered new).passed)
    port_may = may_held R held (Passed e) (left P budget answers (ports + 1) answered new).passed (rw port_left at was.may)

    pub port_held : MayBeToldHeld R held
    port_held = port_may.0

    pub port_next : MayPass (told_held R held) e e.port
    port_next = port_may.1.0

    pub port_from : new.points - 1 ≡ newest (told_held R held)
    port_from = ap (λ n. n - 1) (omega (arith, gives.points_made, was.points, held_points R held))

    pub keeps_port : Keeping P budget answers all (ports + 1) answered new None (told_port (told_held R held) e e.port)
    keeps_port =
        record {
          may = port_may.1.1;
          agrees = was.agrees ∙ rw port_left (recorded_held R held (Passed e) (left P budget answers (ports + 1) answered new).passed);
          lone = omega (arith, may_make-small new.mode);
          points = rw port_points (omega (arith, gives.points_made, was.points, held_points R held));
          boxes = let more = port_boxes (told_held R held) e e.port in let same = ap length (held_boxes R held) in omega (arith, was.boxes, more, same);
          begun = omega (arith, gives.points_made, was.begun);
        }

  -- where an answer is given next
  module _ (new : Standing) (a : Term) (height : length s.stack ≤ ports) (within : ports ≤ budget) (gives : Gives P s.mode s.frames s.stack s.boxes s.points (Answer a) new) where
    answer_items : rest P (budget + 1) s.mode s.frames s.stack s.boxes s.points ≡ Answer a ∷ rest P (budget + 1) new.mode new.frames new.stack new.boxes new.points
    answer_items = gives.items (budget + 1) (omega (arith, height, within))

    module _ (more : answered + 1 < answers) where
      answer_left : (left P budget answers ports answered s).passed ≡ Answer a ∷ (left P budget answers ports (answered + 1) new).passed
      answer_left = ap (λ (r : Run). r.passed) (left_answer P budget answers ports answered s new a height within more gives)

      answer_may : MayBeToldHeld R held × MayBeToldAll (told_held R held) (Answer a ∷ (left P budget answers ports (answered + 1) new).passed)
      answer_may = may_held R held (Answer a) (left P budget answers ports (answered + 1) new).passed (rw answer_left at was.may)

      pub keeps_answer : Keeping P budget answers all ports (answered + 1) new None (told_held R held)
      keeps_answer =
          record {
            may = answer_may.1.1;
            agrees = was.agrees ∙ rw answer_left (recorded_held R held (Answer a) (left P budget answers ports (answered + 1) new).passed);
            lone = omega (arith, may_make-small new.mode);
            points = omega (arith, gives.points_made, was.points, held_points R held);
            boxes = rw held_boxes was.boxes;
            begun = omega (arith, gives.points_made, was.begun);
          }

    -- the last answer that is allowed
    last_left : answered + 1 ≡ answers → (left P budget answers ports answered s).passed ≡ Answer a ∷ []
    last_left last = let one : answers - answered ≡ suc zero = omega (arith, last) in rw (answer_items, one) refl

    pub answer_held : answered < answers → MayBeToldHeld R held
    answer_held below =
        let xs = some_left P budget answers ports answered s new a height within below gives in
        (may_held R held (Answer a) xs.0 (rw xs.1 at was.may)).0

    pub last_agrees : answered + 1 ≡ answers → record_of all.passed ≡ told_held R held
    last_agrees last = was.agrees ∙ rw (last_left last) (recorded_held R held (Answer a) [])

  -- where a point is made next
  module _ (new : Standing) (p : Point) (height : length s.stack ≤ ports) (within : ports ≤ budget) (gives : Gives P s.mode s.frames s.stack s.boxes s.points (Made p) new) where
    none_held : held_count held ≡ 0
    none_held = omega (arith, gives.pace, was.lone)

    point_left : (left P budget answers ports answered s).passed ≡ before_event (Made p) (left P budget answers ports answered new).passed
    point_left = rw (gives.items (budget + 1) (omega (arith, height, within))) refl

    pub keeps_point : Keeping P budget answers all ports answered new (Some p) R
    keeps_point = by_held held none_held was
      where
        by_held : (h : Option Point) → held_count h ≡ 0 → Keeping P budget answers all ports answered s h R → Keeping P budget answers all ports answered new (Some p) R
        by_held None none kept =
            record {
              may = rw point_left at kept.may;
              agrees = rw point_left at kept.agrees;
              lone = omega (arith, gives.pace, kept.lone);
              points = omega (arith, gives.points_made, kept.points);
              boxes = kept.boxes;
              begun = omega (arith, gives.points_made, kept.begun);
            }
        by_held (Some q) none kept = absurd (omega (arith, none))

  -- where nothing is passed any more
  ends_with : (left P budget answers ports answered s).passed ≡ [] → record_of all.passed ≡ R
  ends_with none = was.agrees ∙ rw none (recorded_end R held)

  pub ends_exhausted : Ends P s.mode s.frames s.stack s.boxes s.points → record_of all.passed ≡ R
  ends_exhausted ends = ends_with (rw (ends (budget + 1)) refl)

  pub ends_in_error : (new : Standing) (e : RunError) (b : ℕ) → length s.stack ≤ ports → ports ≤ budget → Gives P s.mode s.frames s.stack s.boxes s.points (Error e b) new → record_of all.passed ≡ R
  ends_in_error new e b height within gives = ends_with (rw (gives.items (budget + 1) (omega (arith, height, within))) refl)

  pub ends_at_budget : (new : Standing) (e : Event) → length s.stack ≤ ports → ports ≡ budget → Gives P s.mode s.frames s.stack s.boxes s.points (Passed e) new → record_of all.passed ≡ R
  ends_at_budget new e height spent gives = let none : budget - ports ≡ zero = omega (arith, spent) in ends_with (rw (gives.items (budget + 1) (omega (arith, height, spent)), none) refl)

module _ {H : Type 0} (step : H → Shown → Result (Unit {0}) HookFault → H → Type 0) (faults : H → ℕ) (start : H) (P : List Tuple) (budget answers : ℕ) (all : Run) (ports answered : ℕ) (s : Standing) (hook : H) (was : Showing step faults start P budget answers all ports answered s hook) where
  -- a point is made: nothing is shown
  pub shows_point : (new : Standing) (p : Point) → Gives P s.mode s.frames s.stack s.boxes s.points (Made p) new → Showing step faults start P budget answers all ports answered new hook
  shows_point new p gives =
      let later : Run = left P budget answers ports answered new in
      let is : left P budget answers ports answered s ≡ hold (Made p) later = rw (gives.items (budget + 1) (omega (arith, was.going.height, was.going.within))) refl in
      let ports_left : ports_of all.passed ≡ ports + ports_of (before_event (Made p) later.passed) = rw is at was.going.ports_left in
      let answers_left : answers_of all.passed ≡ answered + answers_of (before_event (Made p) later.passed) = rw is at was.going.answers_left in
      record {
        going = record {
          end = was.going.end ∙ ap (λ (r : Run). r.end) is;
          ports_left = rw ports_of-hold at ports_left;
          answers_left = rw answers_of-hold at answers_left;
          goes = gives.goes;
          waits = gives.waits;
          height = omega (arith, gives.height, was.going.height);
          boxes = omega (arith, gives.boxes_made, was.going.boxes);
          points = omega (arith, gives.points_made, gives.pace, was.going.points);
          within = was.going.within;
          below = was.going.below;
        };
        completes = subst (λ xs. Completes step start (shown_of all.passed) hook xs) (ap (λ (r : Run). shown_of r.passed) is ∙ shown_of-hold p later.passed) was.completes;
        kept = was.kept;
      }

  -- another port would pass the budget: all is shown
  pub shows_budget : (new : Standing) (e : Event) → ports ≡ budget → Gives P s.mode s.frames s.stack s.boxes s.points (Passed e) new → GoesThrough step start (shown_of all.passed) hook
  shows_budget new e spent gives =
      let none : budget - ports ≡ zero = omega (arith, spent) in
      let is : left P budget answers ports answered s ≡ run_of (Passed e ∷ rest P (budget + 1) new.mode new.frames new.stack new.boxes new.points) (budget - ports) (answers - answered) = rw (gives.items (budget + 1) (omega (arith, was.going.height, spent))) refl in
      let nothing : (left P budget answers ports answered s).passed ≡ [] = ap (λ (r : Run). r.passed) is ∙ rw none refl in
      (subst (λ xs. Completes step start (shown_of all.passed) hook (shown_of xs)) nothing was.completes).through hook refl

  -- another port would pass the budget: the end and the counts
  pub budget_ran : (new : Standing) (e : Event) → ports ≡ budget → Gives P s.mode s.frames s.stack s.boxes s.points (Passed e) new → record { end = Budget; ports = ports; answers = answered } ≡ ran_of all
  budget_ran new e spent gives =
      let none : budget - ports ≡ zero = omega (arith, spent) in
      let is : left P budget answers ports answered s ≡ run_of (Passed e ∷ rest P (budget + 1) new.mode new.frames new.stack new.boxes new.points) (budget - ports) (answers - answered) = rw (gives.items (budget + 1) (omega (arith, was.going.height, spent))) refl in
      let nothing : (left P budget answers ports answered s).passed ≡ [] = ap (λ (r : Run). r.passed) is ∙ rw none refl in
      let end : all.end ≡ Budget = was.going.end ∙ (ap (λ (r : Run). r.end) is ∙ rw none refl) in
      let ports_are : ports_of all.passed ≡ ports + zero = was.going.ports_left ∙ ap (λ xs. ports + ports_of xs) nothing in
      let answers_are : answers_of all.passed ≡ answered + zero = was.going.answers_left ∙ ap (λ xs. answered + answers_of xs) nothing in
      let p : ports_of all.passed ≡ ports = omega (arith, ports_are) in
      let a : answers_of all.passed ≡ answered = omega (arith, answers_are) in
      rw (end, p, a) refl

  -- the hook had a fault at one of the things that are left
  cut_at : (fault : HookFault) (xs : List Shown) (end : H) → StopsAt step fault start xs end → IsCut step start xs end (run_fault fault)
  cut_at HookWriteFault xs end stops = stops
  cut_at HookMemory xs end stops = inr stops

  cuts : (x : Item) (y : Shown) (xs : List Item) (hook' : H) (fault : HookFault) → (left P budget answers ports answered s).passed ≡ x ∷ xs → shown_of (x ∷ xs) ≡ y ∷ shown_of xs → step hook y (Err fault) hook'
      → IsCut step start (shown_of all.passed) hook' (run_fault fault)
  cuts x y xs hook' fault is shows shown =
      let completes : Completes step start (shown_of all.passed) hook (y ∷ shown_of xs) = subst (λ ys. Completes step start (shown_of all.passed) hook ys) (ap shown_of is ∙ shows) was.completes in
      cut_at fault (shown_of all.passed) hook' (completes.stops fault hook' (inl shown))

  -- at a port
  pub port_cut : (new : Standing) (e : Event) (hook' : H) (fault : HookFault) → ports < budget → Gives P s.mode s.frames s.stack s.boxes s.points (Passed e) new → step hook (ShownPort e) (Err fault) hook'
      → IsCut step start (shown_of all.passed) hook' (run_fault fault)
  port_cut new e hook' fault within gives shown =
      cuts (Passed e) (ShownPort e) (left P budget answers (ports + 1) answered new).passed hook' fault (ap (λ (r : Run). r.passed) (left_passed P budget answers ports answered s new e was.going.height within gives)) refl shown

  -- at an answer
  pub answer_cut : (new : Standing) (a : Term) (hook' : H) (fault : HookFault) → Gives P s.mode s.frames s.stack s.boxes s.points (Answer a) new → step hook (ShownAnswer a) (Err fault) hook'
      → IsCut step start (shown_of all.passed) hook' (run_fault fault)
  answer_cut new a hook' fault gives shown =
      let xs = some_left P budget answers ports answered s new a was.going.height was.going.within was.going.below gives in
      cuts (Answer a) (ShownAnswer a) xs.0 hook' fault xs.1 refl shown

  -- whatever fault it was, at a port and at an answer
  pub port_fails : (new : Standing) (e : Event) (hook' : H) (f : RunFault) → ports < budget → Gives P s.mode s.frames s.stack s.boxes s.points (Passed e) new → FailsAt step hook (ShownPort e) hook' f
      → IsCut step start (shown_of all.passed) hook' f
  port_fails new e hook' WriteFault within gives h = port_cut new e hook' HookWriteFault within gives h
  port_fails new e hook' Memory within gives (inl same) = inl (subst (λ (k : H). GoesInto step start (shown_of all.passed) k) same (memory_short step faults start P budget answers all ports answered s hook was))
  port_fails new e hook' Memory within gives (inr h) = port_cut new e hook' HookMemory within gives h

  pub answer_fails : (new : Standing) (a : Term) (hook' : H) (f : RunFault) → Gives P s.mode s.frames s.stack s.boxes s.points (Answer a) new → FailsAt step hook (ShownAnswer a) hook' f
      → IsCut step start (shown_of all.passed) hook' f
  answer_fails new a hook' WriteFault gives h = answer_cut new a hook' HookWriteFault gives h
  answer_fails new a hook' Memory gives (inl same) = inl (subst (λ (k : H). GoesInto step start (shown_of all.passed) k) same (memory_short step faults start P budget answers all ports answered s hook was))
  answer_fails new a hook' Memory gives (inr h) = answer_cut new a hook' HookMemory gives h

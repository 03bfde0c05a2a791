-- Each exit of a trace is followed by its Exit, up to the kth port.
use Rattle.std.proofs.Common.{◌≡◌, ◌≢◌, ℕ, zero, suc, ◌+◌, ◌-◌, ◌<◌, ◌≤◌, List, [], ◌∷◌, ◌++◌, length, refl, sym, ◌∙◌, ap, subst, arith, length-append, append_assoc, append-nil, Option, Some, None, Bool, true, false, ◌⊎◌, inl, inr}
use Rattle.std.specs.Prelude.{slice_get, if◌then◌else◌, ◌==◌, ◌&&◌, nat_lt, not}
use Rattle.std.proofs.lemmas.Bool.Decides.{nat_tests}
use Rattle.std.proofs.lemmas.Option.{slice_get_within}
use Rattle.apd_term.specs.Term.{Term, variable}
use Rattle.apd_term.specs.Canonical.{canonical, by_appearance, place_of}
use Rattle.apd_term.specs.Tuple.{variables_of_tuple}
use Rattle.apd_causes.specs.declared.run.RunError.{RunError}
use Rattle.apd_causes.specs.declared.run.RunError.TheVariants.{Size}
use Rattle.apd_term.specs.declared.tuple.Tuple.{Tuple}
use Rattle.apd_clauses.specs.Clauses.{clauses_for}
use Rattle.apd_ports.specs.declared.event.Event.{Event}
use Rattle.apd_ports.specs.declared.event.Port.{Port}
use Rattle.apd_ports.specs.declared.event.Port.TheVariants.{Call, Exit, Redo, Fail}
use Rattle.apd_ports.specs.declared.point.Point.{Point}
use Rattle.apd_ports.specs.declared.point.Step.{Step}
use Rattle.apd_record.specs.Recorded.{Recorded, goal_left, empty, with_point, is_exit_of, exits}
use Rattle.apd_record.proofs.Keeping.{points_noted}
use Rattle.apd_record.proofs.Readers.{none_done}
use Rattle.apd_record.proofs.Places.{numbers-push}
use Rattle.apd_trace.specs.Frames.{apply_frame, apply_frames, goal_of, is_large, point_at, handed, entering, called, left, look_at, step_from, query_frame}
use Rattle.apd_trace.specs.BuiltIn.{built, Solution, of_program, faulted, failed, solved, solution}
use Rattle.apd_trace.specs.Trace.{Next, Out, nothing, emit, and_then, at_port, point_of, begun, tried, tries, hand, again, closing, over, succeeded, settled, turn, search_from, up_to_error, trace}
use Rattle.apd_trace.specs.Run.{run_of, query_run, before_event}
use Rattle.apd_trace.specs.declared.frame.Frame.{Frame}
use Rattle.apd_trace.specs.declared.frame.Called.{Called}
use Rattle.apd_trace.specs.declared.frame.Look.TheVariants.{Exit as Exits, Answer as Answers}
use Rattle.apd_trace.specs.declared.item.Item.{Item}
use Rattle.apd_trace.specs.declared.item.Item.TheVariants.{Passed, Answer, Made, Error}
use Rattle.apd_trace.proofs.Applied.{apply_goal, slice_get-apply}
use Rattle.apd_recorded.specs.Told.{told_port, record_from, record_of}
use Rattle.apd_recorded.specs.Within.{Within}
use Rattle.apd_recorded.specs.Exited.{exiting_by, exiting, AreExited, exit_at_port, exited}
use Rattle.apd_recorded.proofs.Lifting.{solving-is}
use Rattle.apd_recorded.proofs.Logic.{Within-less, Within-first, Within-second}

-- the same of items up to the kth port and to an error
abbrev ExitedTo : ℕ → Option ℕ → List Item → Type 0
ExitedTo k o [] = Unit {0}
ExitedTo zero o (x ∷ xs) = Unit {0}
ExitedTo (suc k) (Some n) (Passed e ∷ xs) = (e.port ≡ Exit) × (e.box_no ≡ n) × ExitedTo k None xs
ExitedTo (suc k) (Some n) (Made p ∷ xs) = ⊥
ExitedTo (suc k) (Some n) (Answer a ∷ xs) = ⊥
ExitedTo (suc k) (Some n) (Error e b ∷ xs) = ⊥
ExitedTo (suc k) None (Passed e ∷ xs) = (e.port ≢ Exit) × ExitedTo k None xs
ExitedTo (suc k) None (Made p ∷ xs) = ExitedTo (suc k) (exiting p) xs
ExitedTo (suc k) None (Answer a ∷ xs) = ExitedTo (suc k) None xs
ExitedTo (suc k) None (Error e b ∷ xs) = Unit {0}

-- what is to exit after some items
abbrev after : Option ℕ → List Item → Option ℕ
after o [] = o
after o (Passed e ∷ xs) = after None xs
after o (Made p ∷ xs) = after (exiting p) xs
after o (Answer a ∷ xs) = after None xs
after o (Error e b ∷ xs) = after None xs

less : (xs : List Item) (o : Option ℕ) (j k : ℕ) → j ≤ k → ExitedTo k o xs → ExitedTo j o xs
less [] o j k le h = tt
less (x ∷ xs) o zero k le h = tt
less (x ∷ xs) o (suc j) zero le h = absurd (omega arith)
less (Passed e ∷ xs) (Some n) (suc j) (suc k) le h = (h.0, h.1, less xs None j k (omega arith) h.2)
less (Made p ∷ xs) (Some n) (suc j) (suc k) le h = h
less (Answer a ∷ xs) (Some n) (suc j) (suc k) le h = h
less (Error e b ∷ xs) (Some n) (suc j) (suc k) le h = h
less (Passed e ∷ xs) None (suc j) (suc k) le h = (h.0, less xs None j k (omega arith) h.1)
less (Made p ∷ xs) None (suc j) (suc k) le h = less xs (exiting p) (suc j) (suc k) le h
less (Answer a ∷ xs) None (suc j) (suc k) le h = less xs None (suc j) (suc k) le h
less (Error e b ∷ xs) None (suc j) (suc k) le h = tt

append : (xs ys : List Item) (o : Option ℕ) (k : ℕ) → ExitedTo k o xs → (Within xs k → ExitedTo k (after o xs) ys) → ExitedTo k o (xs ++ ys)
append [] [] o zero a b = tt
append [] (y ∷ ys) o zero a b = tt
append [] ys o (suc k) a b = b tt
append (x ∷ xs) ys o zero a b = tt
append (Passed e ∷ xs) ys (Some n) (suc k) a b = (a.0, a.1, append xs ys None k a.2 (λ w. less ys (after None xs) k (suc k) (omega arith) (b w)))
append (Made p ∷ xs) ys (Some n) (suc k) a b = a
append (Answer x ∷ xs) ys (Some n) (suc k) a b = a
append (Error e x ∷ xs) ys (Some n) (suc k) a b = a
append (Passed e ∷ xs) ys None (suc k) a b = (a.0, append xs ys None k a.1 (λ w. less ys (after None xs) k (suc k) (omega arith) (b w)))
append (Made p ∷ xs) ys None (suc k) a b = append xs ys (exiting p) (suc k) a b
append (Answer x ∷ xs) ys None (suc k) a b = append xs ys None (suc k) a b
append (Error e x ∷ xs) ys None (suc k) a b = tt

after-append : (xs ys : List Item) (o : Option ℕ) → after o (xs ++ ys) ≡ after (after o xs) ys
after-append [] ys o = refl
after-append (Passed e ∷ xs) ys o = after-append xs ys None
after-append (Made p ∷ xs) ys o = after-append xs ys (exiting p)
after-append (Answer a ∷ xs) ys o = after-append xs ys None
after-append (Error e b ∷ xs) ys o = after-append xs ys None

-- a search whose exits are followed, where this box is to exit first
abbrev Ends : ℕ → Option ℕ → Out → Type 0
Ends k o out = ExitedTo k o out.items × (Within out.items k → after o out.items ≡ None)

ends_then : (k : ℕ) (o : Option ℕ) (out : Out) (f : ℕ → ℕ → Out) → Ends k o out → ((n m : ℕ) → Ends k None (f n m)) → Ends k o (and_then out f)
ends_then k o out f first others =
    let second = others out.boxes out.points in (
      append out.items (f out.boxes out.points).items o k first.0 (λ w. subst (λ x. ExitedTo k x (f out.boxes out.points).items) (sym (first.1 w)) second.0),
      λ w. after-append out.items (f out.boxes out.points).items o
          ∙ ap (λ x. after x (f out.boxes out.points).items) (first.1 (Within-first out.items (f out.boxes out.points).items k w))
          ∙ second.1 (Within-second out.items (f out.boxes out.points).items k w),
    )

ends_made : (k : ℕ) (p : Point) (out : Out) → Ends k (exiting p) out → Ends k None (emit (Made p) out)
ends_made zero p out h = (tt, λ w. elim w [ ])
ends_made (suc k) p out h = h

ends_port : (k : ℕ) (port : Port) (g : Called) (out : Out) → port ≢ Exit → Ends k None out → Ends (suc k) None (emit (at_port port g) out)
ends_port k port g out other h = ((other, h.0), h.1)

ends_passed : (k : ℕ) (port : Port) (g : Called) (out : Out) → port ≢ Exit → Ends k None out → Ends k None (emit (at_port port g) out)
ends_passed zero port g out other h = (tt, λ w. elim w [ ])
ends_passed (suc k) port g out other h = ((other, less out.items None k (suc k) (omega arith) h.0), λ w. h.1 (Within-less out.items k (suc k) (omega arith) w))

ends_exit : (k : ℕ) (g : Called) (out : Out) → Ends k None out → Ends (suc k) (Some g.box_no) (emit (at_port Exit g) out)
ends_exit k g out h = ((refl, refl, h.0), h.1)

ends_exited : (k : ℕ) (g : Called) (out : Out) → Ends k None out → Ends k (Some g.box_no) (emit (at_port Exit g) out)
ends_exited zero g out h = (tt, λ w. elim w [ ])
ends_exited (suc k) g out h = ((refl, refl, less out.items None k (suc k) (omega arith) h.0), λ w. h.1 (Within-less out.items k (suc k) (omega arith) w))

ends_error : (k : ℕ) (e : RunError) (b n m : ℕ) → Ends k None (emit (Error e b) (nothing n m))
ends_error zero e b n m = (tt, λ w. elim w [ ])
ends_error (suc k) e b n m = (tt, λ w. elim w [ ])

ends_nothing : (k n m : ℕ) → Ends k None (nothing n m)
ends_nothing k n m = (tt, λ w. refl)

ends_closing : (k : ℕ) (g : Called) (n m : ℕ) → Ends k None (closing g n m)
ends_closing k g n m = ends_passed k Fail g (nothing n m) (λ e. cc) (ends_nothing k n m)

-- what is to exit after the point of a frame
abbrev exiting_frame : Frame → Option ℕ
exiting_frame f = exiting_by (goal_of f) f.box_no

exiting-apply : (s : ℕ → Term) (o : Option Term) (n : ℕ) → exiting_by (apply_goal s o) n ≡ exiting_by o n
exiting-apply s None n = refl
exiting-apply s (Some a) n = refl

exiting_point : (f : Frame) (before : Option Step) → exiting (point_at f before) ≡ exiting_frame f
exiting_point f before =
    let c : ℕ → Term = λ v. variable (place_of (by_appearance (variables_of_tuple f.tuple)) v) in
    ap (λ o. exiting_by o f.box_no) (slice_get-apply c f.tuple.body f.done) ∙ exiting-apply c (goal_of f) f.box_no

exiting_box : (n : ℕ) → 0 < n → exiting_by None n ≡ Some n
exiting_box zero lt = absurd (omega arith)
exiting_box (suc n) lt = refl

module _ (P : List Tuple) (k : ℕ) (next : Next) (next_ends : (f : Frame) (G : List Frame) (n m : ℕ) → Ends k (exiting_frame f) (next (f ∷ G) n m)) where
  hand_ends : (F : List Frame) (e n m : ℕ) → Ends k None (hand next F e n m)
  hand_ends [] e n m = ends_nothing k n m
  hand_ends (f ∷ F) e n m = either (is_large f.tuple)
    where
      either : (b : Bool) → Ends k None (if b then emit (Error Size f.box_no) (nothing n m) else emit (point_of (handed f m) (Some (step_from f.point e))) (next (handed f m ∷ F) n (m + 1)))
      either true = ends_error k Size f.box_no n m
      either false =
          ends_made k (point_at (handed f m) (Some (step_from f.point e))) (next (handed f m ∷ F) n (m + 1))
          (subst (λ o. Ends k o (next (handed f m ∷ F) n (m + 1))) (sym (exiting_point (handed f m) (Some (step_from f.point e)))) (next_ends (handed f m) F n (m + 1)))

  begun_ends : (g : Called) (others : ℕ → ℕ → Out) (F : List Frame) (n m : ℕ) → ((n' m' : ℕ) → Ends k None (others n' m')) → Ends k None (begun next g others F n m)
  begun_ends g others [] n m rest = rest n m
  begun_ends g others (f ∷ F) n m rest = either (is_large f.tuple)
    where
      either : (b : Bool) → Ends k None (if b then emit (Error Size g.box_no) (nothing n m) else emit (point_of f None) (and_then (next (f ∷ F) n (m + 1)) others))
      either true = ends_error k Size g.box_no n m
      either false =
          ends_made k (point_at f None) (and_then (next (f ∷ F) n (m + 1)) others)
          (ends_then k (exiting (point_at f None)) (next (f ∷ F) n (m + 1)) others
          (subst (λ o. Ends k o (next (f ∷ F) n (m + 1))) (sym (exiting_point f None)) (next_ends f F n (m + 1))) rest)

  tried_ends : (g : Called) (others : ℕ → ℕ → Out) (x : Option (List Frame)) (n m : ℕ) → ((n' m' : ℕ) → Ends k None (others n' m')) → Ends k None (tried next g others x n m)
  tried_ends g others None n m rest = rest n m
  tried_ends g others (Some F) n m rest = begun_ends g others F n m rest

  tries_ends : (F : List Frame) (g : Called) (cs : List (ℕ × Tuple)) (n m : ℕ) → Ends k None (tries next F g cs n m)
  tries_ends F g [] n m = ends_closing k g n m
  tries_ends F g (c ∷ cs) n m = tried_ends g (tries next F g cs) (entering F g c.1 c.0 m) n m (λ n' m'. tries_ends F g cs n' m')

  -- the frame of a built-in goal's success
  succeeded_ends : (g : Called) (u : ℕ → Term) (goal : Term) (F : List Frame) (n m j : ℕ) → 0 < g.box_no → Ends k None (succeeded next g (apply_frames u (built g goal j ∷ F)) n m)
  succeeded_ends g u goal F n m j some = either (is_large (apply_frame u (built g goal j)).tuple)
    where
      exits_then : Ends k (Some g.box_no) (emit (at_port Exit (left (apply_frame u (built g goal j)) (apply_frames u F))) (and_then (hand next (apply_frames u F) j n (m + 1)) (over (left (apply_frame u (built g goal j)) (apply_frames u F)) g)))
      exits_then =
          ends_exited k (left (apply_frame u (built g goal j)) (apply_frames u F)) (and_then (hand next (apply_frames u F) j n (m + 1)) (over (left (apply_frame u (built g goal j)) (apply_frames u F)) g))
          (ends_then k None (hand next (apply_frames u F) j n (m + 1)) (over (left (apply_frame u (built g goal j)) (apply_frames u F)) g) (hand_ends (apply_frames u F) j n (m + 1))
          (λ n' m'. ends_passed k Redo (left (apply_frame u (built g goal j)) (apply_frames u F)) (closing g n' m') (λ e. cc) (ends_closing k g n' m')))

      either : (b : Bool) → Ends k None (if b then emit (Error Size g.box_no) (nothing n m) else emit (point_of (apply_frame u (built g goal j)) None) (emit (at_port Exit (left (apply_frame u (built g goal j)) (apply_frames u F))) (and_then (hand next (apply_frames u F) j n (m + 1)) (over (left (apply_frame u (built g goal j)) (apply_frames u F)) g))))
      either true = ends_error k Size g.box_no n m
      either false =
          ends_made k (point_at (apply_frame u (built g goal j)) None) (emit (at_port Exit (left (apply_frame u (built g goal j)) (apply_frames u F))) (and_then (hand next (apply_frames u F) j n (m + 1)) (over (left (apply_frame u (built g goal j)) (apply_frames u F)) g)))
          (subst (λ o. Ends k o (emit (at_port Exit (left (apply_frame u (built g goal j)) (apply_frames u F))) (and_then (hand next (apply_frames u F) j n (m + 1)) (over (left (apply_frame u (built g goal j)) (apply_frames u F)) g)))) (sym (exiting_box g.box_no some)) exits_then)

  settled_ends : (cs : List (ℕ × Tuple)) (F : List Frame) (g : Called) (n m j : ℕ) → 0 < g.box_no → (x : Solution) → solution F g j ≡ x → Ends k None (settled next cs F g x n m)
  settled_ends cs F g n m j some of_program e = tries_ends F g cs n m
  settled_ends cs F g n m j some (faulted c) e = ends_error k c g.box_no n m
  settled_ends cs F g n m j some failed e = ends_closing k g n m
  settled_ends cs F g n m j some (solved H) e =
      let x = solving-is F g j H e in
      subst (λ K. Ends k None (succeeded next g K n m)) (sym x.frames) (succeeded_ends g x.solver x.goal F n m j some)

  turn_ends : (o : Option Term) (f : Frame) (G : List Frame) (n m : ℕ) → Ends (suc k) (exiting_by o f.box_no) (turn next P (look_at o f G (n + 1)) (f ∷ G) n m)
  turn_ends (Some a) f G n m =
      let g : Called = called f a (n + 1) in
      ends_port k Call g (settled next (clauses_for g.atom P) (f ∷ G) g (solution (f ∷ G) g m) (n + 1) m) (λ e. cc) (settled_ends (clauses_for g.atom P) (f ∷ G) g (n + 1) m m (omega arith) (solution (f ∷ G) g m) refl)
  turn_ends None f G n m = either (f.box_no == 0) refl
    where
      either : (b : Bool) → (f.box_no == 0) ≡ b → Ends (suc k) (exiting_by None f.box_no) (turn next P (if b then Answers (canonical f.tuple.head) else Exits (left f G) f.point) (f ∷ G) n m)
      either true e =
          let z : f.box_no ≡ 0 = grind (arith, nat_tests) in
          rw z (tt, λ w. refl)
      either false e =
          let some : 0 < f.box_no = grind (arith, nat_tests) in
          subst (λ o. Ends (suc k) o (turn next P (Exits (left f G) f.point) (f ∷ G) n m)) (sym (exiting_box f.box_no some))
          (ends_exit k (left f G) (and_then (hand next G f.point n m) (again (left f G)))
          (ends_then k None (hand next G f.point n m) (again (left f G)) (hand_ends G f.point n m) (λ n' m'. ends_passed k Redo (left f G) (nothing n' m') (λ e. cc) (ends_nothing k n' m'))))

search_ends : (P : List Tuple) (k : ℕ) (f : Frame) (G : List Frame) (n m : ℕ) → Ends k (exiting_frame f) (search_from P k (f ∷ G) n m)
search_ends P zero f G n m = (tt, λ w. elim w [ ])
search_ends P (suc k) f G n m = turn_ends P k (search_from P k) (search_ends P k) (goal_of f) f G n m

up_to : (k : ℕ) (o : Option ℕ) (xs : List Item) → ExitedTo k o xs → ExitedTo k o (up_to_error xs)
up_to k o [] h = tt
up_to zero o (Passed e ∷ xs) h = tt
up_to zero o (Made p ∷ xs) h = tt
up_to zero o (Answer a ∷ xs) h = tt
up_to zero o (Error e b ∷ xs) h = tt
up_to (suc k) (Some n) (Passed e ∷ xs) h = (h.0, h.1, up_to k None xs h.2)
up_to (suc k) (Some n) (Made p ∷ xs) h = h
up_to (suc k) (Some n) (Answer a ∷ xs) h = h
up_to (suc k) (Some n) (Error e b ∷ xs) h = h
up_to (suc k) None (Passed e ∷ xs) h = (h.0, up_to k None xs h.1)
up_to (suc k) None (Made p ∷ xs) h = up_to (suc k) (exiting p) xs h
up_to (suc k) None (Answer a ∷ xs) h = up_to (suc k) None xs h
up_to (suc k) None (Error e b ∷ xs) h = tt

trace_exits : (P : List Tuple) (query : Tuple) (k : ℕ) → ExitedTo k None (trace P query k)
trace_exits P query zero = tt
trace_exits P query (suc k) =
    up_to (suc k) (exiting (point_at (query_frame query) None)) (search_from P (suc k) (query_frame query ∷ []) 0 1).items
    (subst (λ o. ExitedTo (suc k) o (search_from P (suc k) (query_frame query ∷ []) 0 1).items) (sym (exiting_point (query_frame query) None)) (search_ends P (suc k) (query_frame query) [] 0 1).0)

-- what a run passes
hold_exits : (p : Point) (xs : List Item) → (xs ≡ []) ⊎ AreExited (exiting p) xs → AreExited None (before_event (Made p) xs)
hold_exits p [] h = refl
hold_exits p (x ∷ xs) (inl e) = cc
hold_exits p (x ∷ xs) (inr h) = h

passed_exits : (k : ℕ) (o : Option ℕ) (xs : List Item) (ports answers : ℕ) → ports < k → ExitedTo k o xs → ((run_of xs ports answers).passed ≡ []) ⊎ AreExited o (run_of xs ports answers).passed
passed_exits zero o xs ports answers lt h = absurd (omega arith)
passed_exits (suc k) o [] ports answers lt h = inl refl
passed_exits (suc k) (Some n) (Made p ∷ xs) ports answers lt h = absurd h
passed_exits (suc k) (Some n) (Answer a ∷ xs) ports answers lt h = absurd h
passed_exits (suc k) (Some n) (Error e b ∷ xs) ports answers lt h = absurd h
passed_exits (suc k) (Some n) (Passed e ∷ xs) zero answers lt h = inl refl
passed_exits (suc k) (Some n) (Passed e ∷ xs) (suc ports) answers lt h = inr (h.0, h.1, none_exits (run_of xs ports answers).passed (passed_exits k None xs ports answers (omega arith) h.2))
  where
    none_exits : (ys : List Item) → (ys ≡ []) ⊎ AreExited None ys → AreExited None ys
    none_exits ys (inl e') = rw e' refl
    none_exits ys (inr h') = h'
passed_exits (suc k) None (Made p ∷ xs) ports answers lt h = inr (hold_exits p (run_of xs ports answers).passed (passed_exits (suc k) (exiting p) xs ports answers lt h))
passed_exits (suc k) None (Error e b ∷ xs) ports answers lt h = inl refl
passed_exits (suc k) None (Passed e ∷ xs) zero answers lt h = inl refl
passed_exits (suc k) None (Passed e ∷ xs) (suc ports) answers lt h = inr (h.0, none_exits (run_of xs ports answers).passed (passed_exits k None xs ports answers (omega arith) h.1))
  where
    none_exits : (ys : List Item) → (ys ≡ []) ⊎ AreExited None ys → AreExited None ys
    none_exits ys (inl e') = rw e' refl
    none_exits ys (inr h') = h'
passed_exits (suc k) None (Answer a ∷ xs) ports zero lt h = inr refl
passed_exits (suc k) None (Answer a ∷ xs) ports (suc zero) lt h = inr refl
passed_exits (suc k) None (Answer a ∷ xs) ports (suc (suc answers)) lt h = inr (none_exits (run_of xs ports (suc answers)).passed (passed_exits (suc k) None xs ports (suc answers) lt h))
  where
    none_exits : (ys : List Item) → (ys ≡ []) ⊎ AreExited None ys → AreExited None ys
    none_exits ys (inl e') = rw e' refl
    none_exits ys (inr h') = h'

pub run_exits : (P : List Tuple) (query : Tuple) (budget answers : ℕ) → AreExited None (query_run P query budget answers).passed
run_exits P query budget answers = either (passed_exits (budget + 1) None (trace P query (budget + 1)) budget answers (omega arith) (trace_exits P query (budget + 1)))
  where
    either : ((query_run P query budget answers).passed ≡ []) ⊎ AreExited None (query_run P query budget answers).passed → AreExited None (query_run P query budget answers).passed
    either (inl e) = rw e refl
    either (inr h) = h

-- The exits of the record are the newest points at the Exits.

some_done : (ts : List Term) (d : ℕ) (a : Term) → slice_get ts d ≡ Some a → nat_lt d (length ts) ≡ true
some_done ts d a h = let k = slice_get_within ts d a h in grind (arith, nat_tests)

module _ (n : ℕ) (some : 0 < n) where
  -- the exit that is made, and not yet passed
  abbrev waiting : Recorded → Option ℕ → List ℕ
  waiting R None = []
  waiting R (Some b) = if b == n then (length R.points - 1) ∷ [] else []

  waiting_made : (R : Recorded) (p : Point) (o : Option Term) → goal_left p ≡ o → (if is_exit_of n p then (0 + length R.points) ∷ [] else []) ≡ waiting (with_point R p) (exiting_by o p.owner)
  waiting_made R p (Some a) e =
      let lt : nat_lt p.done (length p.tuple.body) ≡ true = some_done p.tuple.body p.done a e in
      rw lt (by_test (p.owner == n))
    where
      by_test : (b : Bool) → (if b && not true then (0 + length R.points) ∷ [] else []) ≡ []
      by_test true = refl
      by_test false = refl
  waiting_made R p None e =
      let lt : nat_lt p.done (length p.tuple.body) ≡ false = none_done p.tuple.body p.done e in
      rw lt (by_owner p.owner)
    where
      by_test : (m : ℕ) (b : Bool) → (if b && not false then (0 + length R.points) ∷ [] else []) ≡ (if b then (length (R.points ++ p ∷ []) - 1) ∷ [] else [])
      by_test m true = let e' : 0 + length R.points ≡ length (R.points ++ p ∷ []) - 1 = omega (arith, length-append R.points (p ∷ [])) in ap (λ x. x ∷ []) e'
      by_test m false = refl

      by_owner : (m : ℕ) → (if (m == n) && not false then (0 + length R.points) ∷ [] else []) ≡ waiting (with_point R p) (exiting_by None m)
      by_owner zero = let z : (0 == n) ≡ false = grind (arith, nat_tests) in rw z refl
      by_owner (suc m) = by_test (suc m) (suc m == n)

  exits_port : (R : Recorded) (e : Event) (port : Port) → exits (told_port R e port) n ≡ exits R n
  exits_port R e Call = refl
  exits_port R e Exit = rw points_noted refl
  exits_port R e Redo = rw points_noted refl
  exits_port R e Fail = rw points_noted refl

  other_port : (R : Recorded) (e : Event) (port : Port) (rest : List ℕ) → port ≢ Exit → exit_at_port n R e port rest ≡ rest
  other_port R e Call rest h = refl
  other_port R e Exit rest h = absurd (h refl)
  other_port R e Redo rest h = refl
  other_port R e Fail rest h = refl

  one_more : (R : Recorded) (b : ℕ) (rest : List ℕ) → waiting R (Some b) ++ rest ≡ (if b == n then (length R.points - 1) ∷ rest else rest)
  one_more R b rest = by_test (b == n)
    where
      by_test : (x : Bool) → (if x then (length R.points - 1) ∷ [] else []) ++ rest ≡ (if x then (length R.points - 1) ∷ rest else rest)
      by_test true = refl
      by_test false = refl

  counted : (xs : List Item) (o : Option ℕ) (R : Recorded) (L : List ℕ) → AreExited o xs → exits R n ≡ L ++ waiting R o → exits (record_from R xs) n ≡ L ++ exited n R xs
  counted [] o R L h e = e ∙ ap (λ x. L ++ waiting R x) h
  counted (Passed e ∷ xs) (Some b) R L h is =
      let rest : List ℕ = exited n (told_port R e e.port) xs in
      let ih : exits (record_from (told_port R e e.port) xs) n ≡ (L ++ waiting R (Some b)) ++ exited n (told_port R e e.port) xs =
      counted xs None (told_port R e e.port) (L ++ waiting R (Some b)) h.2 (exits_port R e e.port ∙ is ∙ sym (append-nil (L ++ waiting R (Some b)))) in
      let moved : exit_at_port n R e e.port rest ≡ waiting R (Some b) ++ rest = ap (λ p. exit_at_port n R e p rest) h.0 ∙ ap (λ m. if m == n then (length R.points - 1) ∷ rest else rest) h.1 ∙ sym (one_more R b rest) in
      ih ∙ append_assoc L (waiting R (Some b)) rest ∙ ap (λ ys. L ++ ys) (sym moved)
  counted (Made p ∷ xs) (Some b) R L h is = absurd h
  counted (Answer a ∷ xs) (Some b) R L h is = absurd h
  counted (Error e c ∷ xs) (Some b) R L h is = absurd h
  counted (Passed e ∷ xs) None R L h is =
      counted xs None (told_port R e e.port) L h.1 (exits_port R e e.port ∙ is)
      ∙ ap (λ ys. L ++ ys) (sym (other_port R e e.port (exited n (told_port R e e.port) xs) h.0))
  counted (Made p ∷ xs) None R L h is =
      counted xs (exiting p) (with_point R p) L h
      (numbers-push (is_exit_of n) 0 R.points p ∙ ap (λ ys. ys ++ (if is_exit_of n p then (0 + length R.points) ∷ [] else [])) (is ∙ append-nil L) ∙ ap (λ ys. L ++ ys) (waiting_made R p (goal_left p) refl))
  counted (Answer a ∷ xs) None R L h is = counted xs None R L h is
  counted (Error e c ∷ xs) None R L h is = counted xs None R L h is

-- the exits of a box in the record of a run
pub exits_are_exited : (P : List Tuple) (query : Tuple) (budget answers n : ℕ) → 0 < n → exits (record_of (query_run P query budget answers).passed) n ≡ exited n empty (query_run P query budget answers).passed
exits_are_exited P query budget answers n some = counted n some (query_run P query budget answers).passed None empty [] (run_exits P query budget answers) refl

-- Frames without what the query shows: the head of the query's frame is empty.
use Rattle.std.proofs.Common.{◌≡◌, ℕ, ◌≤◌, List, [], ◌∷◌, map, refl, ap, sym, ◌∙◌, subst, arith, ◌⊎◌, inl, inr, Bool, true, false, Option, Some, None}
use Rattle.std.specs.Prelude.{if◌then◌else◌, ◌==◌}
use Rattle.std.specs.List.{flat_map}
use Rattle.std.proofs.lemmas.Bool.Decides.{nat_tests}
use Rattle.apd_term.specs.Term.{Term, variable, variables, size, IsAmong}
use Rattle.apd_term.specs.Canonical.{canonical}
use Rattle.apd_term.specs.Substitution.{term_for}
use Rattle.apd_term.specs.Tuple.{apply_tuple, canonical_tuple, variables_of_tuple, size_of_tuple}
use Rattle.apd_term.specs.declared.tuple.Tuple.{Tuple}
use Rattle.apd_term.proofs.Among.{IsAmong-left, IsAmong-right, IsAmong-append}
use Rattle.apd_term.proofs.Tuples.{IsTupleInstance-canonical, canonical_is_instance, apply_tuple-variable}
use Rattle.apd_unify.specs.Textbook.{unifier_of}
use Rattle.apd_unify.proofs.Textbook.{unifier_of-right}
use Rattle.apd_ports.specs.declared.point.Step.{Step}
use Rattle.apd_trace.specs.Frames.{is_large, apply_frame, apply_frames, variables_of_frames, above, shifted_tuple, apart, goal_of, next_goal, entered, under, resolved, entering, handed, outer, owner_of, left, look_at, look_of, point_at}
use Rattle.apd_trace.specs.BuiltIn.{Solution, of_program, faulted, failed, solved, solved_or, built, outcome, solution_by, solution_at, solution}
use Rattle.apd_trace.specs.Renaming.{AreRenamed}
use Rattle.apd_trace.specs.declared.frame.Frame.{Frame}
use Rattle.apd_trace.specs.declared.frame.Called.{Called}
use Rattle.apd_trace.specs.declared.frame.Look.{Look}
use Rattle.apd_trace.specs.declared.frame.Look.TheVariants.{Nothing, Goal, Exit as Exits, Answer as Answers}
use Rattle.apd_trace.specs.declared.frame.Outcome.{Outcome}
use Rattle.apd_trace.specs.declared.frame.Outcome.TheVariants.{User, Faults, Fails, Succeeds, Equates}
use Rattle.apd_trace.proofs.Applied.{IsBelow-above}
use Rattle.apd_trace.proofs.Entered.{entering_by_any}
use Rattle.apd_trace.proofs.Renamed.{same_canonical_tuple}
use Rattle.apd_again.specs.Bare.{no_values, bare, bare_point, bare_point_if}

abbrev pub with_tuple : Frame → Tuple → Frame
with_tuple f t = record { box_no = f.box_no; depth = f.depth; clause = f.clause; tuple = t; done = f.done; point = f.point }

abbrev pub bare_if : Bool → Frame → Frame
bare_if b f = if b then with_tuple f (bare f.tuple) else f

abbrev pub bare_frame : Frame → Frame
bare_frame f = bare_if (f.box_no == 0) f

abbrev pub bare_frames : List Frame → List Frame
bare_frames F = map bare_frame F

pub bare_if-apply : (s : ℕ → Term) (b : Bool) (f : Frame) → apply_frame s (bare_if b f) ≡ bare_if b (apply_frame s f)
bare_if-apply s true f = refl
bare_if-apply s false f = refl

pub bare-apply : (s : ℕ → Term) (F : List Frame) → apply_frames s (bare_frames F) ≡ bare_frames (apply_frames s F)
bare-apply s [] = refl
bare-apply s (f ∷ F) = rw (bare_if-apply s (f.box_no == 0) f, bare-apply s F) refl

bare_if-goal : (b : Bool) (f : Frame) → goal_of (bare_if b f) ≡ goal_of f
bare_if-goal true f = refl
bare_if-goal false f = refl

pub bare-next_goal : (F : List Frame) → next_goal (bare_frames F) ≡ next_goal F
bare-next_goal [] = refl
bare-next_goal (f ∷ F) = bare_if-goal (f.box_no == 0) f

bare_if-among : (b : Bool) (f : Frame) (v : ℕ) → IsAmong (variables_of_tuple (bare_if b f).tuple) v → IsAmong (variables_of_tuple f.tuple) v
bare_if-among true f v m = IsAmong-right (variables f.tuple.head) (flat_map variables f.tuple.body) v m
bare_if-among false f v m = m

bare-among : (F : List Frame) (v : ℕ) → IsAmong (variables_of_frames (bare_frames F)) v → IsAmong (variables_of_frames F) v
bare-among [] v m = m
bare-among (f ∷ F) v m = either (bare-among F v) (IsAmong-append (variables_of_tuple (bare_frame f).tuple) (variables_of_frames (bare_frames F)) v m)
  where
    either : (IsAmong (variables_of_frames (bare_frames F)) v → IsAmong (variables_of_frames F) v)
        → IsAmong (variables_of_tuple (bare_frame f).tuple) v ⊎ IsAmong (variables_of_frames (bare_frames F)) v → IsAmong (variables_of_frames (f ∷ F)) v
    either ih (inl a) = IsAmong-left (variables_of_tuple f.tuple) (variables_of_frames F) v (bare_if-among (f.box_no == 0) f v a)
    either ih (inr a) = IsAmong-right (variables_of_tuple f.tuple) (variables_of_frames F) v (ih a)

-- where there are frames
abbrev pub bare_some : Option (List Frame) → Option (List Frame)
bare_some None = None
bare_some (Some F) = Some (bare_frames F)

-- a frame of a box of its own
pub own_frame : (f : Frame) → (f.box_no == 0) ≡ false → bare_frame f ≡ f
own_frame f e = ap (λ b. bare_if b f) e

under-bare : (x : Option (List (ℕ × Term))) (f : Frame) (F : List Frame) → (f.box_no == 0) ≡ false → under x (f ∷ bare_frames F) ≡ bare_some (under x (f ∷ F))
under-bare None f F e = refl
under-bare (Some s) f F e = ap Some (ap (λ (x : Frame). x ∷ apply_frames (term_for s) (bare_frames F)) (sym (own_frame (apply_frame (term_for s) f) e)) ∙ ap (λ G. bare_frame (apply_frame (term_for s) f) ∷ G) (bare-apply (term_for s) F))

-- a clause is entered alike
pub entering-bare : (F : List Frame) (g : Called) (r : Tuple) (c m : ℕ) → (g.box_no == 0) ≡ false → AreRenamed (entering (bare_frames F) g r c m) (bare_some (entering F g r c m))
entering-bare F g r c m e = by (next_goal F) refl
  where
    by : (o : Option Term) → next_goal F ≡ o → AreRenamed (entering (bare_frames F) g r c m) (bare_some (entering F g r c m))
    by None h =
        let left : entering (bare_frames F) g r c m ≡ None = ap (λ o. resolved o (entered g (apart (bare_frames F) r) c m) (bare_frames F)) (bare-next_goal F ∙ h) in
        let right : entering F g r c m ≡ None = ap (λ o. resolved o (entered g (apart F r) c m) F) h in
        rw (left, right) tt
    by (Some a) h =
        let base = above (variables_of_frames F) in
        let y = unifier_of a (shifted_tuple base r).head in
        let f = entered g (shifted_tuple base r) c m in
        let right : entering F g r c m ≡ under y (f ∷ F) = ap (λ o. resolved o (entered g (apart F r) c m) F) h in
        let any = entering_by_any (bare_frames F) g r r variable variable c m base a y (apply_tuple-variable r) (apply_tuple-variable r) (bare-next_goal F ∙ h)
        (λ v o. IsBelow-above F v (bare-among F v o)) (unifier_of-right a (shifted_tuple base r).head) in
        subst (λ x. AreRenamed (entering (bare_frames F) g r c m) x) (under-bare y f F e ∙ ap bare_some (sym right)) any

-- the first frame is of the box
abbrev pub IsFirst : ℕ → Option (List Frame) → Type 0
IsFirst n None = Unit {0}
IsFirst n (Some []) = Unit {0}
IsFirst n (Some (f ∷ F)) = f.box_no ≡ n

under-first : (x : Option (List (ℕ × Term))) (f : Frame) (F : List Frame) → IsFirst f.box_no (under x (f ∷ F))
under-first None f F = tt
under-first (Some s) f F = refl

pub entering-first : (F : List Frame) (g : Called) (r : Tuple) (c m : ℕ) → IsFirst g.box_no (entering F g r c m)
entering-first F g r c m = by (next_goal F)
  where
    by : (o : Option Term) → IsFirst g.box_no (resolved o (entered g (apart F r) c m) F)
    by None = tt
    by (Some a) = under-first (unifier_of a (apart F r).head) (entered g (apart F r) c m) F

-- what comes of a built-in goal
abbrev pub bare_solution : Solution → Solution
bare_solution of_program = of_program
bare_solution (faulted e) = faulted e
bare_solution failed = failed
bare_solution (solved F) = solved (bare_frames F)

or-bare : (x : Option (List Frame)) → solved_or (bare_some x) ≡ bare_solution (solved_or x)
or-bare None = refl
or-bare (Some F) = refl

pub solution-bare : (F : List Frame) (g : Called) (m : ℕ) → (g.box_no == 0) ≡ false → solution (bare_frames F) g m ≡ bare_solution (solution F g m)
solution-bare F g m e = ap (λ o. solution_at o (bare_frames F) g m) (bare-next_goal F) ∙ at (next_goal F)
  where
    by : (o : Outcome) (a : Term) → solution_by o a (bare_frames F) g m ≡ bare_solution (solution_by o a F g m)
    by User a = refl
    by (Faults v) a = refl
    by Fails a = refl
    by Succeeds a = ap (λ (f : Frame). solved (f ∷ bare_frames F)) (sym (own_frame (built g a m) e))
    by (Equates l r) a = ap solved_or (under-bare (unifier_of l r) (built g a m) F e) ∙ or-bare (under (unifier_of l r) (built g a m ∷ F))

    at : (o : Option Term) → solution_at o (bare_frames F) g m ≡ bare_solution (solution_at o F g m)
    at None = refl
    at (Some a) = by (outcome a) a

abbrev pub IsFirstSolved : ℕ → Solution → Type 0
IsFirstSolved n (solved F) = IsFirst n (Some F)
IsFirstSolved n _ = Unit {0}

pub solution-first : (F : List Frame) (g : Called) (m : ℕ) → IsFirstSolved g.box_no (solution F g m)
solution-first F g m = at (next_goal F)
  where
    or : (x : Option (List Frame)) → IsFirst g.box_no x → IsFirstSolved g.box_no (solved_or x)
    or None h = tt
    or (Some G) h = h

    by : (o : Outcome) (a : Term) → IsFirstSolved g.box_no (solution_by o a F g m)
    by User a = tt
    by (Faults v) a = tt
    by Fails a = tt
    by Succeeds a = refl
    by (Equates l r) a = or (under (unifier_of l r) (built g a m ∷ F)) (under-first (unifier_of l r) (built g a m) F)

    at : (o : Option Term) → IsFirstSolved g.box_no (solution_at o F g m)
    at None = tt
    at (Some a) = by (outcome a) a

-- what the innermost frame does next
abbrev pub bare_look : Look → Look
bare_look Nothing = Nothing
bare_look (Goal g) = Goal g
bare_look (Exits g e) = Exits g e
bare_look (Answers a) = Answers no_values

bare_if-owner : (b : Bool) (f : Frame) → (bare_if b f).box_no ≡ f.box_no
bare_if-owner true f = refl
bare_if-owner false f = refl

pub owner-bare : (F : List Frame) → owner_of (bare_frames F) ≡ owner_of F
owner-bare [] = refl
owner-bare (f ∷ F) = bare_if-owner (f.box_no == 0) f

pub left-bare : (f : Frame) (F : List Frame) → left f (bare_frames F) ≡ left f F
left-bare f F = ap (λ n. record { box_no = f.box_no; caller = n; depth = f.depth; atom = canonical f.tuple.head }) (owner-bare F)

pub look-bare : (F : List Frame) (n : ℕ) → look_of (bare_frames F) n ≡ bare_look (look_of F n)
look-bare [] n = refl
look-bare (f ∷ F) n = by (f.box_no == 0) refl
  where
    goal : (o : Option Term) (b : Bool) → (f.box_no == 0) ≡ b → look_at o (bare_if b f) (bare_frames F) n ≡ bare_look (look_at o f F n)
    goal (Some a) true e = refl
    goal (Some a) false e = refl
    goal None true e =
        ap (λ (c : Bool). if c then Answers (canonical no_values) else Exits (left (bare_if true f) (bare_frames F)) f.point) e
        ∙ ap bare_look (sym (ap (λ (c : Bool). if c then Answers (canonical f.tuple.head) else Exits (left f F) f.point) e))
    goal None false e =
        ap (λ (c : Bool). if c then Answers (canonical f.tuple.head) else Exits (left f (bare_frames F)) f.point) e
        ∙ ap (λ (g : Called). Exits g f.point) (left-bare f F)
        ∙ ap bare_look (sym (ap (λ (c : Bool). if c then Answers (canonical f.tuple.head) else Exits (left f F) f.point) e))

    by : (b : Bool) → (f.box_no == 0) ≡ b → look_of (bare_frames (f ∷ F)) n ≡ bare_look (look_of (f ∷ F) n)
    by b e = ap (λ (c : Bool). look_at (goal_of (bare_if c f)) (bare_if c f) (bare_frames F) n) e ∙ ap (λ o. look_at o (bare_if b f) (bare_frames F) n) (bare_if-goal b f) ∙ goal (goal_of f) b e

-- a goal is called in a box of its own
abbrev pub CallsIn : ℕ → Look → Type 0
CallsIn n (Goal g) = g.box_no ≡ n
CallsIn n look = Unit {0}

pub look-calls : (F : List Frame) (n : ℕ) → CallsIn n (look_of F n)
look-calls [] n = tt
look-calls (f ∷ F) n = goal (goal_of f)
  where
    other : (b : Bool) → CallsIn n (if b then Answers (canonical f.tuple.head) else Exits (left f F) f.point)
    other true = tt
    other false = tt

    goal : (o : Option Term) → CallsIn n (look_at o f F n)
    goal (Some a) = refl
    goal None = other (f.box_no == 0)

pub outer-bare : (F : List Frame) → outer (bare_frames F) ≡ bare_frames (outer F)
outer-bare [] = refl
outer-bare (f ∷ F) = refl

pub handed-bare : (b : Bool) (f : Frame) (m : ℕ) → handed (bare_if b f) m ≡ bare_if b (handed f m)
handed-bare true f m = refl
handed-bare false f m = refl

-- the tuple in canonical form, and its body in canonical form by itself
bare-canonical : (t : Tuple) → canonical_tuple (bare t) ≡ canonical_tuple (bare (canonical_tuple t))
bare-canonical t =
    let there = canonical_is_instance t in
    let back = IsTupleInstance-canonical t in
    same_canonical_tuple there.0 back.0 (bare t) (ap bare (ap (apply_tuple back.0) there.1 ∙ back.1))
    ∙ ap (λ (u : Tuple). canonical_tuple (bare u)) there.1

pub point-bare : (f : Frame) (before : Option Step) → point_at (bare_frame f) before ≡ bare_point (point_at f before)
point-bare f before = by (f.box_no == 0)
  where
    by : (b : Bool) → point_at (bare_if b f) before ≡ bare_point_if b (point_at f before)
    by true = ap (λ (t : Tuple). record { owner = f.box_no; clause = f.clause; done = f.done; tuple = t; before = before }) (bare-canonical f.tuple)
    by false = refl

size-some : (t : Term) → 1 ≤ size t
size-some (Rattle.apd_term.specs.Term.variable v) = omega arith
size-some (Rattle.apd_term.specs.Term.integer i) = omega arith
size-some (Rattle.apd_term.specs.Term.compound f ts) = omega arith

-- a tuple that isn't too large isn't so without its head
pub bare-large : (f : Frame) → is_large f.tuple ≡ false → is_large (bare_frame f).tuple ≡ false
bare-large f h = by (f.box_no == 0)
  where
    smaller : size_of_tuple (bare f.tuple) ≤ size_of_tuple f.tuple
    smaller = omega (arith, size-some f.tuple.head)

    by : (b : Bool) → is_large (bare_if b f).tuple ≡ false
    by true = grind (arith, nat_tests, smaller, h)
    by false = h

-- a frame that is larger with its head is the query's
pub bare-larger : (f : Frame) → is_large f.tuple ≡ true → (is_large (bare_frame f).tuple ≡ true) ⊎ (f.box_no ≡ 0)
bare-larger f h = by (f.box_no == 0) refl
  where
    by : (b : Bool) → (f.box_no == 0) ≡ b → (is_large (bare_frame f).tuple ≡ true) ⊎ (f.box_no ≡ 0)
    by true e = inr (grind (arith, nat_tests, e))
    by false e = inl (ap (λ (c : Bool). is_large (bare_if c f).tuple) e ∙ h)

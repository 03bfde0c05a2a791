-- Each step of the machine gives the next item of what it still gives.
use Rattle.std.proofs.Common.{◌≡◌, ℕ, suc, ◌+◌, ◌-◌, ◌<◌, ◌≤◌, List, [], ◌∷◌, ◌++◌, length, drop, refl, ap, sym, ◌∙◌, subst, arith, append_assoc, Option, Some, None, inl, inr, true, false}
use Rattle.std.proofs.lemmas.List.{length-map, drop_all}
use Rattle.std.proofs.lemmas.Option.{slice_get_within}
use Rattle.std.specs.Prelude.{◌==◌, if◌then◌else◌}
use Rattle.apd_term.specs.Term.{Term, variable, apply}
use Rattle.apd_clauses.specs.Clauses.{IsRunnable, clauses_for}
use Rattle.apd_term.specs.Substitution.{term_for}
use Rattle.apd_term.specs.Canonical.{canonical}
use Rattle.apd_term.specs.declared.tuple.Tuple.{Tuple}
use Rattle.apd_unify.specs.Textbook.{unifier_of}
use Rattle.apd_trace.specs.Frames.{above, variables_of_frames, apply_frames, apart, goal_of, next_goal, entered, entering, handed, handed_all, resolved, under, outer, look_at, look_of, called, left, point_at, step_from}
use Rattle.apd_frames.specs.Kept.{is_large_of}
use Rattle.apd_trace.specs.BuiltIn.{Solution, of_program, failed, solved, solved_or, solution_by, solution_at, solution, outcome, built}
use Rattle.apd_trace.specs.Trace.{Out, Next, nothing, emit, and_then, at_port, hand, closing, over, begun, succeeded, tries, settled, search_from}
use Rattle.apd_causes.specs.declared.run.RunError.{RunError}
use Rattle.apd_causes.specs.declared.run.RunError.TheVariants.{Size}
use Rattle.apd_trace.specs.declared.frame.Outcome.{Outcome}
use Rattle.apd_trace.specs.declared.frame.Outcome.TheVariants.{User, Faults, Fails, Succeeds, Equates}
use Rattle.apd_trace.proofs.Renamed.{renamed_self}
use Rattle.apd_trace.specs.declared.frame.Frame.{Frame}
use Rattle.apd_trace.specs.declared.frame.Called.{Called}
use Rattle.apd_ports.specs.declared.point.Point.{Point}
use Rattle.apd_ports.specs.declared.event.Port.TheVariants.{Call, Exit, Redo, Fail}
use Rattle.apd_trace.specs.declared.item.Item.{Item}
use Rattle.apd_trace.specs.declared.item.Item.TheVariants.{Made, Error}
use Rattle.apd_trace.specs.declared.frame.Look.{Look}
use Rattle.apd_trace.specs.declared.frame.Look.TheVariants.{Goal, Exit as Exits, Answer as Answers}
use Rattle.apd_trace.proofs.Searched.{search_same, tried_same, settled_same}
use Rattle.apd_frames.specs.Kept.{Kept, Calls, MayCall, Points, exit_in, newest_of, point_in}
use Rattle.apd_engine.specs.Search.{leaving, Postpones, AllWait, IsOpen, IsCalling, AllWaits, Gives, Skips, Found, back, resume}
use Rattle.apd_engine.specs.Given.{IsPointOf}
use Rattle.apd_engine.proofs.Numbered.{cut}
use Rattle.apd_engine.specs.declared.search.Choice.{Choice}
use Rattle.apd_engine.specs.declared.search.Choice.TheVariants.{Alternatives, Again, Closing, Over}
use Rattle.apd_engine.specs.declared.search.Mode.{Mode}
use Rattle.apd_engine.specs.declared.search.Mode.TheVariants.{Forward, Hand, Leave, Back}
use Rattle.apd_trace.specs.Renaming.{AreAlike, AreRenamed, IsRenamed}

-- what was waiting with n boxes still waits with more
pub AllWait-more : (n m : ℕ) (F : List Frame) → n ≤ m → AllWait n F → AllWait m F
AllWait-more n m [] le h = tt
AllWait-more n m (f ∷ F) le h = (h.0, h.1, omega (arith, h.2), AllWait-more n m F le h.3)

IsCalling-more : (n m b : ℕ) (F : List Frame) → n ≤ m → IsCalling n b F → IsCalling m b F
IsCalling-more n m b F le h = record { goal = h.goal; calls = h.calls; deep = omega (arith, h.deep); waits = AllWait-more n m F le h.waits }

pub AllWaits-more : (n m : ℕ) (cs : List Choice) (saved : List (List Frame)) → n ≤ m → AllWaits n cs saved → AllWaits m cs saved
AllWaits-more n m [] saved le h = tt
AllWaits-more n m (Alternatives b i ∷ cs) [] le h = h
AllWaits-more n m (Alternatives b i ∷ cs) (F ∷ saved) le h = (IsCalling-more n m b F le h.0, AllWaits-more n m cs saved le h.1)
AllWaits-more n m (Again ∷ cs) [] le h = h
AllWaits-more n m (Again ∷ cs) (E ∷ saved) le h = (h.0, AllWaits-more n m cs saved le h.1)
AllWaits-more n m (Closing b ∷ cs) [] le h = h
AllWaits-more n m (Closing b ∷ cs) (F ∷ saved) le h = (IsCalling-more n m b F le h.0, AllWaits-more n m cs saved le h.1)
AllWaits-more n m (Over b ∷ cs) [] le h = h
AllWaits-more n m (Over b ∷ cs) (E ∷ []) le h = h
AllWaits-more n m (Over b ∷ cs) (E ∷ F ∷ saved) le h = (h.0, IsCalling-more n m b F le h.1, AllWaits-more n m cs saved le h.2)

-- fuel that is left above so many choices is one more than above one choice more
pub fuel : (K h : ℕ) → h < K → K - h ≡ suc (K - suc h)
fuel K h lt = omega arith

-- a goal that is called in a box has its number
box_at : (o : Option Term) (f : Frame) (F : List Frame) (n : ℕ) (g : Called) → look_at o f F n ≡ Goal g → g.box_no ≡ n
box_at (Some a) f F n g e = let same : called f a n ≡ g = cc in sym (ap (λ (c : Called). c.box_no) same)
box_at None f F n g e = elim (f.box_no == 0) as (λ b. (if b then Answers (canonical f.tuple.head) else Exits (left f F) f.point) ≡ Goal g → g.box_no ≡ n) [ true ↦ λ bad. cc | false ↦ λ bad. cc ] e

pub box_of : (F : List Frame) (n : ℕ) (g : Called) → Calls F n g → g.box_no ≡ n
box_of [] n g e = cc
box_of (f ∷ F) n g e = box_at (goal_of f) f F n g e

-- a goal that is called is at most n + 1 deep, and its frames wait for it
goal_at : (o : Option Term) (f : Frame) (F : List Frame) (n : ℕ) (g : Called) → goal_of f ≡ o → look_at o f F (n + 1) ≡ Goal g → IsOpen n (f ∷ F) → (g.depth ≤ n + 1) × AllWait (n + 1) (f ∷ F)
goal_at (Some a) f F n g was look ready =
    let same : called f a (n + 1) ≡ g = cc in
    let deep : f.depth + 1 ≡ g.depth = ap (λ (c : Called). c.depth) same in
    (omega (arith, ready.1), (slice_get_within f.tuple.body f.done a was, ready.0, omega (arith, ready.1), AllWait-more n (n + 1) F (omega arith) ready.2))
goal_at None f F n g was look ready = elim (f.box_no == 0) as (λ b. (if b then Answers (canonical f.tuple.head) else Exits (left f F) f.point) ≡ Goal g → (g.depth ≤ n + 1) × AllWait (n + 1) (f ∷ F)) [ true ↦ λ bad. cc | false ↦ λ bad. cc ] look

pub goal_waits : (F : List Frame) (n : ℕ) (g : Called) → look_of F (n + 1) ≡ Goal g → IsOpen n F → (g.depth ≤ n + 1) × AllWait (n + 1) F
goal_waits [] n g look ready = elim ready [ ]
goal_waits (f ∷ F) n g look ready = goal_at (goal_of f) f F n g refl look ready

pub outer_waits : (F : List Frame) (n : ℕ) → IsOpen n F → AllWait n (outer F)
outer_waits [] n ready = tt
outer_waits (f ∷ F) n ready = ready.2

-- an exit that frames look at is the one that they leave
exits_at : (o : Option Term) (f : Frame) (F : List Frame) (n e : ℕ) (g : Called) → look_at o f F n ≡ Exits g e → ◌≡◌ {A = Option (Called × ℕ)} (Some (left f F, f.point)) (Some (g, e))
exits_at (Some a) f F n e g h = cc
exits_at None f F n e g h = elim (f.box_no == 0) as (λ b. (if b then Answers (canonical f.tuple.head) else Exits (left f F) f.point) ≡ Exits g e → ◌≡◌ {A = Option (Called × ℕ)} (Some (left f F, f.point)) (Some (g, e))) [ true ↦ λ bad. cc | false ↦ λ same. cc ] h

exits_look : (F : List Frame) (n e : ℕ) (g : Called) → look_of F n ≡ Exits g e → exit_in F ≡ Some (g, e)
exits_look [] n e g h = cc
exits_look (f ∷ F) n e g h = exits_at (goal_of f) f F n e g h

-- open frames are left at an exit
pub open_some : (F : List Frame) (n : ℕ) → IsOpen n F → 0 < length F
open_some [] n h = elim h [ ]
open_some (f ∷ F) n h = omega arith

pub exit_some : (F : List Frame) → 0 < length F → (x : Called × ℕ) × (exit_in F ≡ Some x)
exit_some [] h = absurd (omega (arith, h))
exit_some (f ∷ F) h = ((left f F, f.point), refl)

pub gives_call : (P : List Tuple) (F F' : Kept) (cs cs' : List Choice) (n m : ℕ) (look : Look) (g : Called) (i : Item) → look ≡ look_of F.current (n + 1) → look ≡ Goal g → IsOpen n F.current → AllWaits n cs F.saved → F' ≡ record { current = F.current; saved = F.current ∷ F.saved } → cs' ≡ Alternatives (n + 1) 0 ∷ cs → i ≡ at_port Call g → Gives P Forward F cs n m i (record { frames = F'; mode = Back; stack = cs'; boxes = n + 1; points = m })
gives_call P F F' cs cs' n m look g i looks is ready waits kept pushed told =
    let goal : look_of F.current (n + 1) ≡ Goal g = sym looks ∙ is in
    let wait = goal_waits F.current n g goal ready in
    rw (kept, pushed, told) (record {
      items = λ K below. rw (fuel K (length cs) below, goal) refl;
      height = omega arith;
      boxes_made = omega arith;
      points_made = omega arith;
      pace = omega arith;
      goes = tt;
      waits = (record { goal = g; calls = goal; deep = wait.0; waits = wait.1 }, AllWaits-more n (n + 1) cs F.saved (omega arith) waits);
    })

pub gives_exit : (P : List Tuple) (F F' : Kept) (cs cs' : List Choice) (n m e : ℕ) (look : Look) (g : Called) (i : Item) → look ≡ look_of F.current (n + 1) → look ≡ Exits g e → IsOpen n F.current → AllWaits n cs F.saved → F' ≡ record { current = outer F.current; saved = F.current ∷ F.saved } → cs' ≡ Again ∷ cs → i ≡ at_port Exit g → Gives P Forward F cs n m i (record { frames = F'; mode = Hand e; stack = cs'; boxes = n; points = m })
gives_exit P F F' cs cs' n m e look g i looks is ready waits kept pushed told =
    let exit : look_of F.current (n + 1) ≡ Exits g e = sym looks ∙ is in
    rw (kept, pushed, told) (record {
      items = λ K below. rw (fuel K (length cs) below, exit, exits_look F.current (n + 1) e g exit, append_assoc) refl;
      height = omega arith;
      boxes_made = omega arith;
      points_made = omega arith;
      pace = omega arith;
      goes = outer_waits F.current n ready;
      waits = (open_some F.current n ready, waits);
    })

-- frames that wait do so under a substitution
AllWait-apply : (n : ℕ) (s : ℕ → Term) (F : List Frame) → AllWait n F → AllWait n (apply_frames s F)
AllWait-apply n s [] h = tt
AllWait-apply n s (f ∷ F) h =
    (omega (arith, h.0, length-map f.tuple.body (apply s)), omega (arith, h.1, length-map f.tuple.body (apply s)), h.2, AllWait-apply n s F h.3)

IsOpen-apply : (n : ℕ) (s : ℕ → Term) (F : List Frame) → IsOpen n F → IsOpen n (apply_frames s F)
IsOpen-apply n s [] h = h
IsOpen-apply n s (f ∷ F) h = (omega (arith, h.0, length-map f.tuple.body (apply s)), h.1, AllWait-apply n s F h.2)

opened_under : (n : ℕ) (x : Option (List (ℕ × Term))) (F G : List Frame) → AreRenamed (under x F) (Some G) → IsOpen n F → IsOpen n G
opened_under n None F G h ready = elim h [ ]
opened_under n (Some s) F G h ready = subst (IsOpen n) h.makes (IsOpen-apply n h.there (apply_frames (term_for s) F) (IsOpen-apply n (term_for s) F ready))

pub opened : (n : ℕ) (o : Option Term) (e : Frame) (F G : List Frame) → AreRenamed (resolved o e F) (Some G) → IsOpen n (e ∷ F) → IsOpen n G
opened n None e F G h ready = elim h [ ]
opened n (Some a) e F G h ready = opened_under n (unifier_of a e.tuple.head) (e ∷ F) G h ready

-- a clause that was entered gives its point, or an error
pub begun_made : (next : Next) (g : Called) (others : ℕ → ℕ → Out) (F : List Frame) (n m : ℕ) (p : Point) → is_large_of F ≡ false → Some p ≡ point_in F None → begun next g others F n m ≡ emit (Made p) (and_then (next F n (m + 1)) others)
begun_made next g others [] n m p large is = cc
begun_made next g others (f ∷ F) n m p large is = let same : p ≡ point_at f None = cc in rw (large, same) refl

pub begun_large : (next : Next) (g : Called) (others : ℕ → ℕ → Out) (F : List Frame) (n m : ℕ) → is_large_of F ≡ true → begun next g others F n m ≡ emit (Error Size g.box_no) (nothing n m)
begun_large next g others [] n m large = cc
begun_large next g others (f ∷ F) n m large = rw large refl

-- a built-in goal that succeeds gives its point, and leaves; or an error
succeeded_made : (next : Next) (g l : Called) (e : ℕ) (F : List Frame) (n m : ℕ) (p : Point) → is_large_of F ≡ false → Some p ≡ point_in F None → Some (l, e) ≡ exit_in F
    → succeeded next g F n m ≡ emit (Made p) (and_then (leaving next F n (m + 1)) (over l g))
succeeded_made next g l e [] n m p large is exits = cc
succeeded_made next g l e (f ∷ F) n m p large is exits =
    let same : p ≡ point_at f None = cc in
    let both : (l, e) ≡ (left f F, f.point) = cc in
    let same_left : l ≡ left f F = ap (λ (x : Called × ℕ). x.0) both in
    rw (large, same, same_left) refl

pub succeeded_large : (next : Next) (g : Called) (F : List Frame) (n m : ℕ) → is_large_of F ≡ true → succeeded next g F n m ≡ emit (Error Size g.box_no) (nothing n m)
succeeded_large next g [] n m large = cc
succeeded_large next g (f ∷ F) n m large = rw large refl

-- an item, a search, and then what follows it
seam : (i : Item) (o : Out) (f : ℕ → ℕ → Out) (others : ℕ → ℕ → List Item) → (emit i (and_then o f)).items ++ others (and_then o f).boxes (and_then o f).points ≡ i ∷ (o.items ++ ((f o.boxes o.points).items ++ others (f o.boxes o.points).boxes (f o.boxes o.points).points))
seam i o f others = ap (λ xs. i ∷ xs) (append_assoc o.items (f o.boxes o.points).items (others (f o.boxes o.points).boxes (f o.boxes o.points).points))

-- a built-in goal that was solved opens its frame
opened_front : (n : ℕ) (F G : List Frame) → IsRenamed F G → IsOpen n F → IsOpen n G
opened_front n F G h ready = subst (IsOpen n) h.makes (IsOpen-apply n h.there F ready)

opened_or : (n : ℕ) (x : Option (List (ℕ × Term))) (F G : List Frame) → AreAlike (solved_or (under x F)) (solved G) → IsOpen n F → IsOpen n G
opened_or n None F G h ready = elim h [ ]
opened_or n (Some s) F G h ready = opened_under n (Some s) F G h ready

opened_by : (n : ℕ) (o : Outcome) (a : Term) (F : List Frame) (g : Called) (m : ℕ) (G : List Frame) → AreAlike (solution_by o a F g m) (solved G) → g.depth ≤ n → AllWait n F → IsOpen n G
opened_by n User a F g m G h deep waits = elim h [ ]
opened_by n (Faults e) a F g m G h deep waits = elim h [ ]
opened_by n Fails a F g m G h deep waits = elim h [ ]
opened_by n Succeeds a F g m G h deep waits = opened_front n (built g a m ∷ F) G h (omega arith, deep, waits)
opened_by n (Equates l r) a F g m G h deep waits = opened_or n (unifier_of l r) (built g a m ∷ F) G h (omega arith, deep, waits)

pub opened_at : (n : ℕ) (o : Option Term) (F : List Frame) (g : Called) (m : ℕ) (G : List Frame) → AreAlike (solution_at o F g m) (solved G) → g.depth ≤ n → AllWait n F → IsOpen n G
opened_at n None F g m G h deep waits = elim h [ ]
opened_at n (Some a) F g m G h deep waits = opened_by n (outcome a) a F g m G h deep waits

-- a clause that is renamed apart has as many goals
pub few_apart : (F : List Frame) (r : Tuple) → IsRunnable r → length (apart F r).body ≤ 64
few_apart F r h = omega (arith, h.few, length-map r.body (apply (λ v. variable (above (variables_of_frames F) + v))))

module _ (P : List Tuple) where
  -- a built-in goal's exit
  pub gives_leave : (F F' : Kept) (cs : List Choice) (n m e : ℕ) (l : Called) (i : Item) → Some (l, e) ≡ exit_in F.current → IsOpen n F.current → AllWaits n cs F.saved → F' ≡ record { current = outer F.current; saved = F.saved } → i ≡ at_port Exit l → Gives P Leave F cs n m i (record { frames = F'; mode = Hand e; stack = cs; boxes = n; points = m })
  gives_leave F F' cs n m e l i exits ready waits kept told =
      rw (kept, told) (record {
        items = λ K below. ap (λ (o : Out). o.items ++ back P K cs F.saved o.boxes o.points) (leaves (search_from P (K - length cs)) F.current exits);
        height = omega arith;
        boxes_made = omega arith;
        points_made = omega arith;
        pace = omega arith;
        goes = outer_waits F.current n ready;
        waits = waits;
      })
    where
      leaves : (next : Next) (G : List Frame) → Some (l, e) ≡ exit_in G → leaving next G n m ≡ emit (at_port Exit l) (hand next (outer G) e n m)
      leaves next [] exits_at = cc
      leaves next (f ∷ G) exits_at =
          let both : (l, e) ≡ (left f G, f.point) = cc in
          let same : l ≡ left f G = ap (λ (x : Called × ℕ). x.0) both in
          let point : e ≡ f.point = ap (λ (x : Called × ℕ). x.1) both in
          rw (same, point) refl

  -- an exit that is handed to the innermost frame
  module _ (F T G : Kept) (cs : List Choice) (n m e b p : ℕ) (newest : Some (b, p) ≡ newest_of F.current) (waiting : AllWait n F.current) (waits : AllWaits n cs F.saved) (taken : T ≡ record { current = handed_all F.current m; saved = F.saved }) (kept : G ≡ T) where
    pub gives_handed : (i : Item) → IsPointOf T.current (Some (step_from p e)) i → Gives P (Hand e) F cs n m i (record { frames = G; mode = Forward; stack = cs; boxes = n; points = m + 1 })
    gives_handed i made =
        let w : Points (Some made.point) (handed_all F.current m) (Some (step_from p e)) = subst (λ (k : Kept). Points (Some made.point) k.current (Some (step_from p e))) taken made.points in
        rw (kept, taken, made.is) (record {
          items = λ K below. ap (λ (o : Out). o.items ++ back P K cs F.saved o.boxes o.points) (hands (search_from P (K - length cs)) F.current made.point newest w.0 w.1);
          height = omega arith;
          boxes_made = omega arith;
          points_made = omega arith;
          pace = omega arith;
          goes = opens F.current newest waiting;
          waits = waits;
        })
      where
        hands : (next : Next) (H : List Frame) (x : Point) → Some (b, p) ≡ newest_of H → is_large_of (handed_all H m) ≡ false → Some x ≡ point_in (handed_all H m) (Some (step_from p e)) → hand next H e n m ≡ emit (Made x) (next (handed_all H m) n (m + 1))
        hands next [] x there small is = cc
        hands next (f ∷ H) x there small is =
            let same : x ≡ point_at (handed f m) (Some (step_from p e)) = cc in
            let both : (b, p) ≡ (f.box_no, f.point) = cc in
            let point : p ≡ f.point = ap (λ (y : ℕ × ℕ). y.1) both in
            rw (small, same, point) refl

        opens : (H : List Frame) → Some (b, p) ≡ newest_of H → AllWait n H → IsOpen n (handed_all H m)
        opens [] there h = cc
        opens (f ∷ H) there h = (h.1, h.2, h.3)

    pub gives_handed_large : is_large_of T.current ≡ true → Gives P (Hand e) F cs n m (Error Size b) (record { frames = G; mode = Back; stack = cs; boxes = n; points = m })
    gives_handed_large large =
        let w : is_large_of (handed_all F.current m) ≡ true = subst (λ (k : Kept). is_large_of k.current ≡ true) taken large in
        rw (kept, taken) (record {
          items = λ K below. ap (λ (o : Out). o.items ++ back P K cs F.saved o.boxes o.points) (hands (search_from P (K - length cs)) F.current newest w);
          height = omega arith;
          boxes_made = omega arith;
          points_made = omega arith;
          pace = omega arith;
          goes = tt;
          waits = waits;
        })
      where
        hands : (next : Next) (H : List Frame) → Some (b, p) ≡ newest_of H → is_large_of (handed_all H m) ≡ true → hand next H e n m ≡ emit (Error Size b) (nothing n m)
        hands next [] there large = cc
        hands next (f ∷ H) there large =
            let both : (b, p) ≡ (f.box_no, f.point) = cc in
            let box : b ≡ f.box_no = ap (λ (y : ℕ × ℕ). y.0) both in
            rw (large, box) refl

  -- Redo of a box that was left
  pub gives_again : (F G : Kept) (cs : List Choice) (n m e : ℕ) (l : Called) (mode : Mode) (i : Item) (E : List Frame) (S : List (List Frame)) → F.saved ≡ E ∷ S → G.saved ≡ S → exit_in E ≡ Some (l, e) → AllWaits n cs S → mode ≡ Back → i ≡ at_port Redo l
      → Gives P Back F (Again ∷ cs) n m i (record { frames = G; mode = mode; stack = cs; boxes = n; points = m })
  gives_again F G cs n m e l mode i E S was now exits waits is told =
      rw (is, told) (record {
        items = λ K below. rw (was, now, exits) refl;
        height = omega arith;
        boxes_made = omega arith;
        points_made = omega arith;
        pace = omega arith;
        goes = tt;
        waits = subst (AllWaits n cs) (sym now) waits;
      })

  -- Fail of a goal
  pub gives_closed : (F G : Kept) (cs : List Choice) (n m b : ℕ) (g : Called) (mode : Mode) (i : Item) (E : List Frame) (S : List (List Frame)) → F.saved ≡ E ∷ S → G.saved ≡ S → look_of E b ≡ Goal g → AllWaits n cs S → mode ≡ Back → i ≡ at_port Fail g
      → Gives P Back F (Closing b ∷ cs) n m i (record { frames = G; mode = mode; stack = cs; boxes = n; points = m })
  gives_closed F G cs n m b g mode i E S was now calls waits is told =
      rw (is, told) (record {
        items = λ K below. rw (was, now, calls) refl;
        height = omega arith;
        boxes_made = omega arith;
        points_made = omega arith;
        pace = omega arith;
        goes = tt;
        waits = subst (AllWaits n cs) (sym now) waits;
      })

  -- Redo of a built-in goal, and its Fail is left
  pub gives_redo : (F G : Kept) (cs cs' : List Choice) (n m b e : ℕ) (l : Called) (mode : Mode) (i : Item) (E C : List Frame) (S : List (List Frame)) → F.saved ≡ E ∷ C ∷ S → G.saved ≡ C ∷ S → exit_in E ≡ Some (l, e) → IsCalling n b C → AllWaits n cs S → cs' ≡ Closing b ∷ cs → mode ≡ Back → i ≡ at_port Redo l
      → Gives P Back F (Over b ∷ cs) n m i (record { frames = G; mode = mode; stack = cs'; boxes = n; points = m })
  gives_redo F G cs cs' n m b e l mode i E C S was now exits calling waits pushed is told =
      rw (pushed, is, told) (record {
        items = λ K below. rw (was, now, exits, calling.calls) refl;
        height = omega arith;
        boxes_made = omega arith;
        points_made = omega arith;
        pace = omega arith;
        goes = tt;
        waits = subst (AllWaits n (Closing b ∷ cs)) (sym now) (calling, waits);
      })

  -- what comes of a goal, where that is known up to a renaming
  settled_as : (k : ℕ) (F : List Frame) (g : Called) (i n m : ℕ) (x : Solution) → AreAlike (solution F g m) x → resume P k g F i n m ≡ settled (search_from P k) (drop i (clauses_for g.atom P)) F g x n m
  settled_as k F g i n m x h = settled_same P (search_from P k) (search_same P k) g (drop i (clauses_for g.atom P)) F F (solution F g m) x n m h (renamed_self F)

  -- the frames R were restored from what was saved at X, and call the goal g in box b
  module _ (X R : Kept) (S : List (List Frame)) (was : X.saved ≡ R.current ∷ S) (here : R.saved ≡ R.current ∷ S) (cs : List Choice) (n m b from : ℕ) (calling : IsCalling n b R.current) (waiting : AllWaits n cs S) where
    abbrev g : Called
    g = calling.goal

    -- no clause is left, or the goal is built in and fails
    gives_fail : (new : Kept) (mode : Mode) (i : Item) → ((k : ℕ) → resume P k g R.current from n m ≡ closing g n m) → new.saved ≡ S → mode ≡ Back → i ≡ at_port Fail g → Gives P Back X (Alternatives b from ∷ cs) n m i (record { frames = new; mode = mode; stack = cs; boxes = n; points = m })
    gives_fail new mode i closes now is told =
        rw (is, told) (record {
          items = λ K below. rw (was, now, calling.calls, closes (K - suc (length cs))) refl;
          height = omega arith;
          boxes_made = omega arith;
          points_made = omega arith;
          pace = omega arith;
          goes = tt;
          waits = subst (AllWaits n cs) (sym now) waiting;
        })

    pub gives_failed : (new : Kept) (mode : Mode) (i : Item) → AreAlike (solution R.current g m) failed → new.saved ≡ S → mode ≡ Back → i ≡ at_port Fail g → Gives P Back X (Alternatives b from ∷ cs) n m i (record { frames = new; mode = mode; stack = cs; boxes = n; points = m })
    gives_failed new mode i alike now is told = gives_fail new mode i (λ k. settled_as k R.current g from n m failed alike) now is told

    pub gives_last : (new : Kept) (mode : Mode) (i : Item) (at : ℕ) → AreAlike (solution R.current g m) of_program → Skips P R.current g m from at → length (clauses_for g.atom P) ≤ at → new.saved ≡ S → mode ≡ Back → i ≡ at_port Fail g → Gives P Back X (Alternatives b from ∷ cs) n m i (record { frames = new; mode = mode; stack = cs; boxes = n; points = m })
    gives_last new mode i at alike skips past now is told =
        gives_fail new mode i (λ k. settled_as k R.current g from n m of_program alike ∙ skips (search_from P k) n ∙ ap (λ rs. tries (search_from P k) R.current g rs n m) (drop_all at (clauses_for g.atom P) past)) now is told

    -- an error
    gives_fault : (new : Kept) (mode : Mode) (e : RunError) (i : Item) → ((k : ℕ) → resume P k g R.current from n m ≡ emit (Error e g.box_no) (nothing n m)) → i ≡ Error e g.box_no → new.saved ≡ S → mode ≡ Back → Gives P Back X (Alternatives b from ∷ cs) n m i (record { frames = new; mode = mode; stack = cs; boxes = n; points = m })
    gives_fault new mode e i ends told now is =
        rw (is, told) (record {
          items = λ K below. rw (was, now, calling.calls, ends (K - suc (length cs))) refl;
          height = omega arith;
          boxes_made = omega arith;
          points_made = omega arith;
          pace = omega arith;
          goes = tt;
          waits = subst (AllWaits n cs) (sym now) waiting;
        })

    -- a built-in goal succeeds
    module _ (E : List Frame) (alike : AreAlike (solution R.current g m) (solved E)) where
      solved_open : IsOpen n E
      solved_open = opened_at n (next_goal R.current) R.current g m E alike calling.deep calling.waits

      pub gives_solved : (new : Kept) (cs' : List Choice) (p : Point) → is_large_of E ≡ false → Some p ≡ point_in E None → new ≡ record { current = E; saved = E ∷ R.current ∷ S } → cs' ≡ Over b ∷ cs → Gives P Back X (Alternatives b from ∷ cs) n m (Made p) (record { frames = new; mode = Leave; stack = cs'; boxes = n; points = m + 1 })
      gives_solved new cs' p large is now pushed =
          let x = exit_some E (open_some E n solved_open) in
          rw (now, pushed) (record {
            items = λ K below.
                let k : ℕ = K - suc (length cs) in
                let made : resume P k g R.current from n m ≡ emit (Made p) (and_then (leaving (search_from P k) E n (m + 1)) (over x.0.0 g)) =
                settled_as k R.current g from n m (solved E) alike ∙ succeeded_made (search_from P k) g x.0.0 x.0.1 E n m p large is (sym x.1) in
                rw (was, calling.calls, made, x.1) (seam (Made p) (leaving (search_from P k) E n (m + 1)) (over x.0.0 g) (back P K cs S));
            height = omega arith;
            boxes_made = omega arith;
            points_made = omega arith;
            pace = omega arith;
            goes = solved_open;
            waits = (open_some E n solved_open, calling, waiting);
          })

      pub gives_oversolved : (new : Kept) (mode : Mode) (i : Item) → is_large_of E ≡ true → i ≡ Error Size g.box_no → new.saved ≡ S → mode ≡ Back → Gives P Back X (Alternatives b from ∷ cs) n m i (record { frames = new; mode = mode; stack = cs; boxes = n; points = m })
      gives_oversolved new mode i large told now is =
          gives_fault new mode Size i (λ k. settled_as k R.current g from n m (solved E) alike ∙ succeeded_large (search_from P k) g E n m large) told now is

    -- the goal's clauses from an index on, where those before `at` can't be entered and that one was
    module _ (new : Kept) (at : ℕ) (alike : AreAlike (solution R.current g m) of_program) (skips : Skips P R.current g m from at) (found : Found P g m at R new) where
      tries_found : (k : ℕ) → resume P k g R.current from n m ≡ begun (search_from P k) g (tries (search_from P k) R.current g (drop (at + 1) (clauses_for g.atom P))) new.current n m
      tries_found k =
          settled_as k R.current g from n m of_program alike
          ∙ skips (search_from P k) n
          ∙ ap (λ rs. tries (search_from P k) R.current g rs n m) (cut (clauses_for g.atom P) at found.clause found.there)
          ∙ tried_same P (search_from P k) (search_same P k) g (tries (search_from P k) R.current g (drop (at + 1) (clauses_for g.atom P))) (tries (search_from P k) R.current g (drop (at + 1) (clauses_for g.atom P))) (entering R.current g found.clause.1 found.clause.0 m) (Some new.current) n m found.entered.renamed (λ n' m'. refl)

      -- what the later clauses give is what the choice gives that waits for them
      later : (k n' m' : ℕ) → resume P k g R.current (at + 1) n' m' ≡ tries (search_from P k) R.current g (drop (at + 1) (clauses_for g.atom P)) n' m'
      later k n' m' = later_at (next_goal R.current) alike
        where
          by_outcome : (o : Outcome) (a : Term) (rs : List (ℕ × Tuple)) → AreAlike (solution_by o a R.current g m) of_program → settled (search_from P k) rs R.current g (solution_by o a R.current g m') n' m' ≡ tries (search_from P k) R.current g rs n' m'
          by_outcome User a rs h = refl
          by_outcome (Faults e) a rs h = elim h [ ]
          by_outcome Fails a rs h = elim h [ ]
          by_outcome Succeeds a rs h = elim h [ ]
          by_outcome (Equates l r) a rs h = by_unifier (unifier_of l r) h
            where
              by_unifier : (x : Option (List (ℕ × Term))) → AreAlike (solved_or (under x (built g a m ∷ R.current))) of_program → settled (search_from P k) rs R.current g (solved_or (under x (built g a m' ∷ R.current))) n' m' ≡ tries (search_from P k) R.current g rs n' m'
              by_unifier None h = elim h [ ]
              by_unifier (Some s) h = elim h [ ]

          later_at : (o : Option Term) → AreAlike (solution_at o R.current g m) of_program → settled (search_from P k) (drop (at + 1) (clauses_for g.atom P)) R.current g (solution_at o R.current g m') n' m' ≡ tries (search_from P k) R.current g (drop (at + 1) (clauses_for g.atom P)) n' m'
          later_at None h = refl
          later_at (Some a) h = by_outcome (outcome a) a (drop (at + 1) (clauses_for g.atom P)) h

      -- the clauses up to `at` are passed over, and that one is entered
      module _ (p : Point) (large : is_large_of new.current ≡ false) (point : Some p ≡ point_in new.current None) where
        made : (k : ℕ) → resume P k g R.current from n m ≡ emit (Made p) (and_then (search_from P k new.current n (m + 1)) (tries (search_from P k) R.current g (drop (at + 1) (clauses_for g.atom P))))
        made k = tries_found k ∙ begun_made (search_from P k) g (tries (search_from P k) R.current g (drop (at + 1) (clauses_for g.atom P))) new.current n m p large point

        goes_on : IsOpen n new.current
        goes_on =
            opened n (next_goal R.current) (entered g (apart R.current found.clause.1) found.clause.0 m) R.current new.current found.entered.renamed
            (few_apart R.current found.clause.1 found.runnable, calling.deep, calling.waits)

        saved_so : new.saved ≡ R.current ∷ S
        saved_so = found.entered.saved ∙ here

        -- other clauses are left
        gives_more : (kept : Kept) (cs' : List Choice) → kept ≡ new → cs' ≡ Alternatives b (at + 1) ∷ cs → Gives P Back X (Alternatives b from ∷ cs) n m (Made p) (record { frames = kept; mode = Forward; stack = cs'; boxes = n; points = m + 1 })
        gives_more kept cs' same pushed =
            rw (same, pushed) (record {
              items = λ K below.
                  let k : ℕ = K - suc (length cs) in
                  let o : Out = search_from P k new.current n (m + 1) in
                  rw (was, saved_so, calling.calls, made k, later k o.boxes o.points) (seam (Made p) o (tries (search_from P k) R.current g (drop (at + 1) (clauses_for g.atom P))) (back P K cs S));
              height = omega arith;
              boxes_made = omega arith;
              points_made = omega arith;
              pace = omega arith;
              goes = goes_on;
              waits = subst (AllWaits n (Alternatives b (at + 1) ∷ cs)) (sym saved_so) (calling, waiting);
            })

        -- it was the last one
        gives_only : (kept : Kept) (cs' : List Choice) → length (clauses_for g.atom P) ≤ at + 1 → kept ≡ new → cs' ≡ Closing b ∷ cs → Gives P Back X (Alternatives b from ∷ cs) n m (Made p) (record { frames = kept; mode = Forward; stack = cs'; boxes = n; points = m + 1 })
        gives_only kept cs' past same pushed =
            rw (same, pushed) (record {
              items = λ K below.
                  let k : ℕ = K - suc (length cs) in
                  let o : Out = search_from P k new.current n (m + 1) in
                  let none : drop (at + 1) (clauses_for g.atom P) ≡ [] = drop_all (at + 1) (clauses_for g.atom P) past in
                  rw (was, saved_so, calling.calls, made k, none) (seam (Made p) o (closing g) (back P K cs S));
              height = omega arith;
              boxes_made = omega arith;
              points_made = omega arith;
              pace = omega arith;
              goes = goes_on;
              waits = subst (AllWaits n (Closing b ∷ cs)) (sym saved_so) (calling, waiting);
            })

        pub gives_made : (count : ℕ) (kept : Kept) (cs' : List Choice) → count ≡ length (clauses_for g.atom P) → kept ≡ new → Postpones b (at + 1) count cs cs' → Gives P Back X (Alternatives b from ∷ cs) n m (Made p) (record { frames = kept; mode = Forward; stack = cs'; boxes = n; points = m + 1 })
        gives_made count kept cs' all same (inl more) = gives_more kept cs' same more.1
        gives_made count kept cs' all same (inr last) = gives_only kept cs' (omega (arith, last.0)) same last.1

      -- that one is entered, and too large
      pub gives_large : (last : Kept) (mode : Mode) (i : Item) → is_large_of new.current ≡ true → i ≡ Error Size g.box_no → last.saved ≡ S → mode ≡ Back → Gives P Back X (Alternatives b from ∷ cs) n m i (record { frames = last; mode = mode; stack = cs; boxes = n; points = m })
      gives_large last mode i large told now is =
          gives_fault last mode Size i (λ k. tries_found k ∙ begun_large (search_from P k) g (tries (search_from P k) R.current g (drop (at + 1) (clauses_for g.atom P))) new.current n m large) told now is

-- frames that wait may call
pub may_call : (n : ℕ) (F : List Frame) → AllWait n F → n + 1 < 4294967296 → MayCall F
may_call n [] waits low = tt
may_call n (f ∷ F) waits low = omega (arith, waits.2)

-- the frames that were saved last, and those before
pub record IsRestored (X R : Kept) : Type 0 where
  pub current : X.saved ≡ R.current ∷ drop 1 X.saved
  pub saved : R.saved ≡ X.saved

module _ (X R : Kept) (h : IsRestored X R) where
  pub restored_here : R.saved ≡ R.current ∷ drop 1 X.saved
  restored_here = h.saved ∙ h.current

  pub forgotten_so : (held : Kept) → held ≡ R → drop 1 held.saved ≡ drop 1 X.saved
  forgotten_so held same = ap (λ (f : Kept). drop 1 f.saved) same ∙ ap (drop 1) h.saved

  module _ (n b i : ℕ) (cs : List Choice) where
    pub calling_first : AllWaits n (Alternatives b i ∷ cs) X.saved → IsCalling n b R.current × AllWaits n cs (drop 1 X.saved)
    calling_first waits = subst (AllWaits n (Alternatives b i ∷ cs)) h.current waits

    pub calling_last : AllWaits n (Closing b ∷ cs) X.saved → IsCalling n b R.current × AllWaits n cs (drop 1 X.saved)
    calling_last waits = subst (AllWaits n (Closing b ∷ cs)) h.current waits

    pub left_first : AllWaits n (Again ∷ cs) X.saved → (0 < length R.current) × AllWaits n cs (drop 1 X.saved)
    left_first waits = subst (AllWaits n (Again ∷ cs)) h.current waits

-- the frames R were restored from what was saved at X, for the goal that they call in box b
module _ (P : List Tuple) (X R : Kept) (h : IsRestored X R) (cs : List Choice) (n m b from : ℕ) (waits : AllWaits n (Alternatives b from ∷ cs) X.saved) where
  abbrev S : List (List Frame)
  S = drop 1 X.saved

  pub calling : IsCalling n b R.current
  calling = (calling_first X R h n b from cs waits).0

  waiting : AllWaits n cs S
  waiting = (calling_first X R h n b from cs waits).1

  -- what holds of the goal that is called there
  abbrev OfGoal : (Called → Type 0) → Type 0
  OfGoal B = (g : Called) → Calls R.current b g → B g

  pub tells_box : OfGoal (λ g. b ≡ g.box_no)
  tells_box g calls = sym (box_of R.current b g calls)

  same_box : b ≡ calling.goal.box_no
  same_box = tells_box calling.goal calling.calls

  pub retries_failed : (new : Kept) (mode : Mode) (i : Item) → OfGoal (λ g. AreAlike (solution R.current g m) failed) → new.saved ≡ S → mode ≡ Back → OfGoal (λ g. i ≡ at_port Fail g)
      → Gives P Back X (Alternatives b from ∷ cs) n m i (record { frames = new; mode = mode; stack = cs; boxes = n; points = m })
  retries_failed new mode i alike now is told =
      gives_failed P X R S h.current (restored_here X R h) cs n m b from calling waiting new mode i (alike calling.goal calling.calls) now is (told calling.goal calling.calls)

  pub retries_solved : (E : List Frame) (new : Kept) (cs' : List Choice) (i : Item) → OfGoal (λ g. AreAlike (solution R.current g m) (solved E)) → IsPointOf E None i → new ≡ record { current = E; saved = E ∷ R.current ∷ S } → cs' ≡ Over b ∷ cs
      → Gives P Back X (Alternatives b from ∷ cs) n m i (record { frames = new; mode = Leave; stack = cs'; boxes = n; points = m + 1 })
  retries_solved E new cs' i alike made now pushed =
      subst (λ (j : Item). Gives P Back X (Alternatives b from ∷ cs) n m j (record { frames = new; mode = Leave; stack = cs'; boxes = n; points = m + 1 })) (sym made.is)
      (gives_solved P X R S h.current (restored_here X R h) cs n m b from calling waiting E (alike calling.goal calling.calls) new cs' made.point made.points.0 made.points.1 now pushed)

  pub retries_large : (E : List Frame) (new : Kept) (mode : Mode) → OfGoal (λ g. AreAlike (solution R.current g m) (solved E)) → is_large_of E ≡ true → new.saved ≡ S → mode ≡ Back
      → Gives P Back X (Alternatives b from ∷ cs) n m (Error Size b) (record { frames = new; mode = mode; stack = cs; boxes = n; points = m })
  retries_large E new mode alike large now is =
      gives_oversolved P X R S h.current (restored_here X R h) cs n m b from calling waiting E (alike calling.goal calling.calls) new mode (Error Size b) large (ap (Error Size) same_box) now is

  module _ (alike : OfGoal (λ g. AreAlike (solution R.current g m) of_program)) (at : ℕ) (skips : OfGoal (λ g. Skips P R.current g m from at)) where
    pub tries_last : (new : Kept) (mode : Mode) (i : Item) (count : ℕ) → OfGoal (λ g. count ≡ length (clauses_for g.atom P)) → count ≤ at → new.saved ≡ S → mode ≡ Back → OfGoal (λ g. i ≡ at_port Fail g)
        → Gives P Back X (Alternatives b from ∷ cs) n m i (record { frames = new; mode = mode; stack = cs; boxes = n; points = m })
    tries_last new mode i count all past now is told =
        gives_last P X R S h.current (restored_here X R h) cs n m b from calling waiting new mode i at (alike calling.goal calling.calls) (skips calling.goal calling.calls)
        (omega (arith, all calling.goal calling.calls, past)) now is (told calling.goal calling.calls)

    module _ (new : Kept) (found : OfGoal (λ g. Found P g m at R new)) where
      pub found_open : IsOpen n new.current
      found_open =
          let f = found calling.goal calling.calls in
          opened n (next_goal R.current) (entered calling.goal (apart R.current f.clause.1) f.clause.0 m) R.current new.current f.entered.renamed
          (few_apart R.current f.clause.1 f.runnable, calling.deep, calling.waits)

      pub found_saved : new.saved ≡ R.saved
      found_saved = (found calling.goal calling.calls).entered.saved

      pub tries_made : (kept : Kept) (cs' : List Choice) (count : ℕ) (i : Item) → OfGoal (λ g. count ≡ length (clauses_for g.atom P)) → IsPointOf new.current None i → kept ≡ new → Postpones b (at + 1) count cs cs'
          → Gives P Back X (Alternatives b from ∷ cs) n m i (record { frames = kept; mode = Forward; stack = cs'; boxes = n; points = m + 1 })
      tries_made kept cs' count i all made same postponed =
          subst (λ (j : Item). Gives P Back X (Alternatives b from ∷ cs) n m j (record { frames = kept; mode = Forward; stack = cs'; boxes = n; points = m + 1 })) (sym made.is)
          (gives_made P X R S h.current (restored_here X R h) cs n m b from calling waiting new at (alike calling.goal calling.calls) (skips calling.goal calling.calls) (found calling.goal calling.calls)
          made.point made.points.0 made.points.1 count kept cs' (all calling.goal calling.calls) same postponed)

      pub tries_large : (last : Kept) (mode : Mode) → is_large_of new.current ≡ true → last.saved ≡ S → mode ≡ Back
          → Gives P Back X (Alternatives b from ∷ cs) n m (Error Size b) (record { frames = last; mode = mode; stack = cs; boxes = n; points = m })
      tries_large last mode large now is =
          gives_large P X R S h.current (restored_here X R h) cs n m b from calling waiting new at (alike calling.goal calling.calls) (skips calling.goal calling.calls) (found calling.goal calling.calls)
          last mode (Error Size b) large (ap (Error Size) same_box) now is

  -- a built-in goal that was solved is open
  pub solved_some : (E : List Frame) → OfGoal (λ g. AreAlike (solution R.current g m) (solved E)) → 0 < length E
  solved_some E alike =
      open_some E n (opened_at n (next_goal R.current) R.current calling.goal m E (alike calling.goal calling.calls) calling.deep calling.waits)

  pub here_saved : R.saved ≡ R.current ∷ S
  here_saved = restored_here X R h

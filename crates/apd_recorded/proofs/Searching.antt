-- A record may be told the items of each search, up to the kth port of the search that goes k ports deep.
use Rattle.std.proofs.Common.{◌≡◌, ◌≢◌, ℕ, zero, suc, ◌+◌, ◌-◌, ◌<◌, ◌≤◌, List, [], ◌∷◌, length, refl, sym, ◌∙◌, ap, subst, arith, Option, Some, None, Bool, true, false, ◌⊎◌, inl, inr}
use Rattle.std.specs.Prelude.{slice_get, if◌then◌else◌, ◌==◌}
use Rattle.std.proofs.lemmas.Bool.Decides.{nat_tests}
use Rattle.std.proofs.Math.Nat.{eq-or-lt_of_le}
use Rattle.std.proofs.lemmas.Option.{slice_get_within}
use Rattle.apd_term.specs.Term.{Term, variable, apply, variables, predicate_of}
use Rattle.apd_term.specs.Canonical.{canonical, by_appearance, place_of, AreVariants}
use Rattle.apd_term.specs.Substitution.{IsInstance, followed_by}
use Rattle.apd_term.specs.Tuple.{canonical_tuple, variables_of_tuple}
use Rattle.apd_causes.specs.declared.run.RunError.TheVariants.{Size}
use Rattle.apd_term.specs.declared.tuple.Tuple.{Tuple}
use Rattle.apd_term.proofs.Applying.{apply-followed_by}
use Rattle.apd_term.proofs.Tuples.{IsInstance-head, IsTupleInstance-canonical, canonical_is_instance}
use Rattle.apd_term.proofs.Variants.{IsInstance-trans, IsInstance-canonical, AreVariants_from_instances, canonical-canonical}
use Rattle.apd_arith.specs.declared.goal.Builtin.{Builtin}
use Rattle.apd_arith.specs.Builtins.{builtin_of_atom}
use Rattle.apd_arith.specs.Truth.{IsTrueAtom}
use Rattle.apd_clauses.specs.Clauses.{IsAtom, clauses_for}
use Rattle.apd_ports.specs.declared.event.Port.{Port}
use Rattle.apd_ports.specs.declared.event.Port.TheVariants.{Call, Exit, Redo, Fail}
use Rattle.apd_ports.specs.declared.point.Point.{Point}
use Rattle.apd_record.specs.Recorded.{Recorded, box_at, point_at as point_in, goal_left, is_none, is_user_atom, opened, called_row, with_point, noted}
use Rattle.apd_record.specs.declared.rows.BoxRow.{BoxRow}
use Rattle.apd_record.specs.Sound.{clause_of, IsKept, MayOpen, IsAlwaysTrue}
use Rattle.apd_record.specs.Chain.{IsActive, IsInnermost, AreChained}
use Rattle.apd_record.specs.Full.{HasExit}
use Rattle.apd_record.proofs.Atoms.{IsAtom-apply, user-same}
use Rattle.apd_record.proofs.Lists.{get-last, get-one, longer}
use Rattle.apd_record.proofs.Growing.{IsSameCall, box_still, Grown, grown_same, grown_then, grown_point, grown_opened, grown_noted}
use Rattle.apd_record.proofs.Keeping.{owner_below, kept_opened, kept_noted, points_noted}
use Rattle.apd_record.proofs.Chains.{chained_opened, innermost_opened, innermost_builtin, innermost_point, innermost_one, chained_left, chained_back, chained_builtin}
use Rattle.apd_trace.specs.Frames.{apply_frame, apply_frames, goal_of, next_goal, is_large, point_at, called, left, look_at}
use Rattle.apd_trace.specs.BuiltIn.{built, Solution, of_program, faulted, failed, solved, solution}
use Rattle.apd_trace.specs.Trace.{Next, nothing, emit, and_then, at_port, point_of, tries, hand, again, closing, over, succeeded, settled, turn, search_from}
use Rattle.apd_trace.specs.declared.frame.Frame.{Frame}
use Rattle.apd_trace.specs.declared.frame.Called.{Called}
use Rattle.apd_trace.specs.declared.frame.Look.TheVariants.{Goal, Exit as Exits, Answer as Answers}
use Rattle.apd_trace.specs.declared.item.Item.TheVariants.{Made, Error}
use Rattle.apd_trace.proofs.Faulting.{program_is_not_built_in}
use Rattle.apd_trace.proofs.Linked.{linked_solved}
use Rattle.apd_trace.proofs.Truths.{solved_is_true, true_is_solved, failed_is_untrue}
use Rattle.apd_recorded.specs.Told.{May, IsExitAt, IsAnswerOf}
use Rattle.apd_recorded.proofs.Lifting.{solving-is, joint_solved}
use Rattle.apd_recorded.proofs.Tried.{Rise-for, stands-of, tried-for, AreAtoms, AreAtoms-get}
use Rattle.apd_recorded.proofs.Logic.{Meets, meets_then, meets_made, meets_passed, meets_port, meets_error, meets_nothing}
use Rattle.apd_recorded.proofs.State.{Opens, opens_then, opens_same, opens_point, opens_opened, opens_exit, opens_redo, Waits, InFront, Stack, Counted, IsNewest, IsReady, start_of, IsHanded, IsSettled, Settled, EntersNone, After, stack-grown, settled-grown, noted_boxes, point_goal, point_exit}
use Rattle.apd_recorded.proofs.Handing.{Closing, closing_meets, hand_meets, open_of}
use Rattle.apd_recorded.proofs.Entering.{Asked, waits_for, asked-grown, IsEntry, may_enter, stack_entered, counted_entered, tries_meets}

-- the box that is called next
new_box : (R : Recorded) (atom : Term) (from n : ℕ) → length R.boxes ≡ n → box_at (opened R atom from) (n + 1) ≡ Some (called_row atom from)
new_box R atom from n h = let e : n + 1 ≡ suc n = omega arith in rw e (get-last R.boxes (called_row atom from) n h)

-- nothing is to be settled past the end
settled_past : (R : Recorded) (x : ℕ) → length R.points ≤ x → Settled R x
settled_past R x past i p le at = absurd (let lt = slice_get_within R.points i p at in omega (arith, lt, past, le))

settled_noted : (R : Recorded) (n x : ℕ) (port : Port) → Settled R x → Settled (noted R n port) x
settled_noted R n x port h i p le at = settled-grown R (noted R n port) (grown_noted R n port) i p (goal_left p) (h i p le (rw points_noted at at))

counted_noted : (R : Recorded) (b : ℕ) (port : Port) (n m : ℕ) → AreChained (noted R b port) → Counted R n m → Counted (noted R b port) n m
counted_noted R b port n m chained h = record { kept = kept_noted R b port h.kept; chained = chained; boxes = noted_boxes R b port n h.boxes; points = rw points_noted h.points }

-- whether a goal is built in, by what comes of it
is_user_by : (F : List Frame) (g : Called) (m : ℕ) (a : Term) → next_goal F ≡ Some a → solution F g m ≡ of_program → is_user_atom a ≡ true
is_user_by F g m a is e = ap is_none ((program_is_not_built_in F g m a is).0 e)

is_builtin_by : (F : List Frame) (g : Called) (m : ℕ) (a : Term) → next_goal F ≡ Some a → solution F g m ≢ of_program → is_user_atom a ≡ false
is_builtin_by F g m a is other = either (builtin_of_atom a) refl
  where
    either : (o : Option Builtin) → builtin_of_atom a ≡ o → is_none o ≡ false
    either None e = absurd (other ((program_is_not_built_in F g m a is).1 e))
    either (Some goal) e = refl

module _ (P : List Tuple) (heads : (c : ℕ) (r : Tuple) → clause_of P c ≡ Some r → IsAtom r.head) (clauses : (c : ℕ) (r : Tuple) → clause_of P c ≡ Some r → AreAtoms r.body) (k : ℕ) (next : Next) (next_meets : (F : List Frame) (Ts : List Tuple) (n m : ℕ) (R : Recorded) → IsReady R F Ts n m → Meets P k R (next F n m) (After R (start_of F))) where
  -- a goal is called
  module _ (R : Recorded) (f : Frame) (G : List Frame) (T : Tuple) (Us : List Tuple) (n m : ℕ) (goal : Term) (is : goal_of f ≡ Some goal) (stack : Stack R (f ∷ G) (T ∷ Us)) (counted : Counted R n m) (newest : IsNewest R f T m) where
    abbrev g : Called
    g = called f goal (n + 1)

    abbrev Ropened : Recorded
    Ropened = opened R g.atom (length R.points - 1)

    abbrev renaming : ℕ → Term
    renaming v = variable (place_of (by_appearance (variables goal)) v)

    abbrev caller_point : Point
    caller_point = record { owner = f.box_no; clause = f.clause; done = f.done; tuple = T; before = stack.placed.0.before }

    atom : IsAtom goal
    atom = AreAtoms-get f.tuple.body f.done goal stack.atoms.0 is

    from : length R.points - 1 ≡ f.point
    from = omega (arith, counted.points, newest.newest)

    in_point : (a : Term) × (slice_get T.body f.done ≡ Some a) × IsInstance goal a
    in_point = point_goal f T goal stack.placed.0.instance is

    -- the point's goal is a variant of the frame's
    variant : AreVariants in_point.0 (canonical goal)
    variant =
        let back = point_goal (record { box_no = f.box_no; depth = f.depth; clause = f.clause; tuple = T; done = f.done; point = f.point }) f.tuple in_point.0 newest.as_made in_point.1 in
        let same : back.0 ≡ goal = get-one (goal_of f) back.0 goal back.1 is in
        AreVariants_from_instances in_point.0 goal in_point.2 (subst (IsInstance in_point.0) same back.2) ∙ sym (canonical-canonical goal)

    may_call : MayOpen R g.atom (length R.points - 1)
    may_call =
        record {
          caller = caller_point;
          goal = in_point.0;
          there = rw from stack.placed.0.there;
          next = in_point.1;
          variant = variant;
          is_atom = IsAtom-apply (λ v. variable (place_of (by_appearance (variables goal)) v)) goal atom;
          childless = λ j b h same. (let lt = newest.childless j b h in omega (arith, lt, same, from));
          is_open = open_of R f.box_no G stack.boxed.0;
        }

    grown1 : Grown R Ropened
    grown1 = grown_opened R g.atom (length R.points - 1)

    opens1 : Opens R Ropened
    opens1 = opens_opened R g.atom (length R.points - 1)

    caller_there : point_in R (length R.points - 1) ≡ Some caller_point
    caller_there = rw from stack.placed.0.there

    chained1 : AreChained Ropened
    chained1 = chained_opened R g.atom (length R.points - 1) counted.kept caller_point caller_there counted.chained newest.top

    counted1 : Counted Ropened (n + 1) m
    counted1 = record { kept = kept_opened R g.atom (length R.points - 1) may_call counted.kept; chained = chained1; boxes = longer R.boxes (called_row g.atom (length R.points - 1)) n counted.boxes; points = counted.points }

    asked1 : (user : Bool) → is_user_atom goal ≡ user → Asked Ropened g.box_no f.point g.atom user
    asked1 user e =
        record {
          row = called_row g.atom (length R.points - 1);
          there = new_box R g.atom (length R.points - 1) n counted.boxes;
          from = from;
          is_open = refl;
          atom_is = refl;
          user_is = user-same (λ v. variable (place_of (by_appearance (variables goal)) v)) goal atom ∙ e;
        }

    atom_kind : (user : Bool) → is_user_atom goal ≡ user → is_user_atom g.atom ≡ user
    atom_kind user e = user-same (λ v. variable (place_of (by_appearance (variables goal)) v)) goal atom ∙ e

    -- a port of a built-in goal's box
    builtin_noted : (S : Recorded) (port : Port) → IsKept S → AreChained S → Asked S g.box_no f.point g.atom false → point_in S f.point ≡ Some caller_point → AreChained (noted S g.box_no port) × ((o : ℕ) → IsInnermost S o → IsInnermost (noted S g.box_no port) o)
    builtin_noted S port kept chained asked there = chained_builtin S g.box_no port asked.row asked.there kept caller_point (ap (λ i. point_in S i) asked.from ∙ there) asked.user_is chained

    settled1 : Settled Ropened (f.point + 1)
    settled1 = settled_past Ropened (f.point + 1) (omega (arith, counted.points, newest.newest))

    none1 : EntersNone (length R.boxes) (length R.points) Ropened
    none1 i p le at first = absurd (let lt = slice_get_within R.points i p at in omega (arith, lt, le))

    nobody : (i : ℕ) (q : Point) → point_in R i ≡ Some q → q.owner ≢ g.box_no
    nobody i q at same = let le = owner_below R i q.owner (counted.kept.made i q at).owned in omega (arith, le, same, counted.boxes)

    is_new : length R.boxes < g.box_no
    is_new = omega (arith, counted.boxes)

    -- its clauses are tried
    program_meets : is_user_atom goal ≡ true → Meets P k Ropened (tries next (f ∷ G) g (clauses_for g.atom P) (n + 1) m) (After R f.point)
    program_meets user =
        tries_meets P clauses k next next_meets R f G T Us g goal in_point.0 is refl Ropened (clauses_for g.atom P) (n + 1) m (record {
          stack = stack-grown R Ropened grown1 opens1 (f ∷ G) (T ∷ Us) stack;
          counted = counted1;
          asked = asked1 true user;
          goal_left = in_point.1;
          settled = settled1;
          low = 1;
          rise = Rise-for P (predicate_of g.atom);
          below = λ i q at first owner. absurd (nobody i q at owner);
          programs = λ c r stands. stands-of P (predicate_of g.atom) c r stands;
          tried = λ c r t there of_r of_goal. inl (tried-for P g.atom c r t there (heads c r there) may_call.is_atom of_r of_goal);
          grown = grown1;
          opens = opens1;
          none = none1;
          is_new = is_new;
          is_there = omega arith;
          top = subst (λ j. IsInnermost Ropened (j + 1)) counted.boxes (innermost_opened R g.atom (length R.points - 1) counted.kept caller_point caller_there (atom_kind true user));
          base = newest.top;
        })

    -- a built-in goal that fails
    failed_meets : is_user_atom goal ≡ false → solution (f ∷ G) g m ≡ failed → Meets P k Ropened (closing g (n + 1) m) (After R f.point)
    failed_meets builtin fails =
        closing_meets P R Ropened g f.point (n + 1) m (record {
          waits = waits_for Ropened g.box_no f.point g.atom false (asked1 false builtin);
          counted = counted1;
          caller = caller_point;
          goal = in_point.0;
          caller_there = stack.placed.0.there;
          has_goal = in_point.1;
          settled = settled1;
          enters = λ user. (let bad : true ≡ false = sym user ∙ (asked1 false builtin).user_is in cc);
          exits = λ e s ground holds. absurd (failed_is_untrue (f ∷ G) g m goal (followed_by renaming s) is fails (subst IsTrueAtom (apply-followed_by renaming s goal) (subst (λ a. IsTrueAtom (apply s a)) (asked1 false builtin).atom_is holds)));
          grown = grown1;
          opens = opens1;
          none = none1;
          is_new = is_new;
          chained = (builtin_noted Ropened Fail counted1.kept chained1 (asked1 false builtin) stack.placed.0.there).0;
          top = λ o t. (builtin_noted Ropened Fail counted1.kept chained1 (asked1 false builtin) stack.placed.0.there).1 o (innermost_builtin R g.atom (length R.points - 1) counted.kept caller_point caller_there (atom_kind false builtin) o t);
        }) k

    -- a built-in goal that succeeds, by the solution u
    module _ (builtin : is_user_atom goal ≡ false) (u : ℕ → Term) (made : solution (f ∷ G) g m ≡ solved (apply_frames u (built g goal m ∷ f ∷ G))) where
      abbrev front : Frame
      front = apply_frame u (built g goal m)

      abbrev Rpointed : Recorded
      Rpointed = with_point Ropened (point_at front None)

      abbrev Rexited : Recorded
      Rexited = noted Rpointed g.box_no Exit

      abbrev shown : ℕ → Term
      shown v = variable (place_of (by_appearance (variables_of_tuple front.tuple)) v)

      always_true : IsAlwaysTrue (canonical_tuple front.tuple).head
      always_true s ground = subst IsTrueAtom (sym (apply-followed_by shown s front.tuple.head)) (solved_is_true (f ∷ G) (apply_frames u (f ∷ G)) front g m goal (followed_by shown s) is made)

      enters : IsEntry Ropened g f.point false front m
      enters =
          record {
            asked = asked1 false builtin;
            box = refl;
            undone = refl;
            point = refl;
            head = IsInstance-trans front.tuple.head goal (canonical goal) (u, refl) (IsInstance-canonical goal);
            success = record { clause = refl; body = refl; holds = always_true };
            is_new = λ i q at first owner same. nobody i q at owner;
          }

      may : May P Ropened (Made (point_at front None))
      may = (may_enter Ropened g f.point false front m enters, λ j b first owner box user. absurd (not_user j b owner box user))
        where
          not_user : (j : ℕ) (b : BoxRow) → g.box_no ≡ j → box_at Ropened j ≡ Some b → b.is_user ≡ true → ⊥
          not_user j b owner box user =
              let x = asked1 false builtin in
              let same : x.row ≡ b = get-one (box_at Ropened j) x.row b (subst (λ i. box_at Ropened i ≡ Some x.row) owner x.there) box in
              let bad : true ≡ false = sym user ∙ ap (λ (c : BoxRow). c.is_user) (sym same) ∙ x.user_is in
              cc

      stack2 : Stack Rpointed (front ∷ apply_frames u (f ∷ G)) (canonical_tuple front.tuple ∷ T ∷ Us)
      stack2 =
          stack_entered Ropened (f ∷ G) (T ∷ Us) u m front (stack-grown R Ropened grown1 opens1 (f ∷ G) (T ∷ Us) stack) (waits_for Ropened g.box_no f.point g.atom false (asked1 false builtin)) counted.points refl
          (linked_solved (f ∷ G) (front ∷ apply_frames u (f ∷ G)) g m stack.linked made)
          (joint_solved (f ∷ G) (apply_frames u (f ∷ G)) front g m (canonical_tuple front.tuple) (T ∷ Us) made stack.joint (canonical_is_instance front.tuple)) tt

      stack3 : Stack Rexited (front ∷ apply_frames u (f ∷ G)) (canonical_tuple front.tuple ∷ T ∷ Us)
      stack3 = stack-grown Rpointed Rexited (grown_noted Rpointed g.box_no Exit) (opens_exit Rpointed g.box_no) (front ∷ apply_frames u (f ∷ G)) (canonical_tuple front.tuple ∷ T ∷ Us) stack2

      counted2 : Counted Rpointed (n + 1) (m + 1)
      counted2 = counted_entered Ropened (f ∷ G) (T ∷ Us) u m front (n + 1) counted1 may.0

      asked2 : Asked Rpointed g.box_no f.point g.atom false
      asked2 = asked-grown Ropened Rpointed (grown_point Ropened (point_at front None)) (opens_point Ropened (point_at front None)) g.box_no f.point g.atom false (asked1 false builtin)

      exit_noted : AreChained Rexited × ((o : ℕ) → IsInnermost Rpointed o → IsInnermost Rexited o)
      exit_noted = builtin_noted Rpointed Exit counted2.kept counted2.chained asked2 ((grown_point Ropened (point_at front None)).points f.point caller_point stack.placed.0.there)

      top3 : (o : ℕ) → IsInnermost R o → IsInnermost Rexited o
      top3 o t = exit_noted.1 o (innermost_point Ropened (point_at front None) o (innermost_builtin R g.atom (length R.points - 1) counted.kept caller_point caller_there (atom_kind false builtin) o t))

      counted3 : Counted Rexited (n + 1) (m + 1)
      counted3 = counted_noted Rpointed g.box_no Exit (n + 1) (m + 1) exit_noted.0 (counted_entered Ropened (f ∷ G) (T ∷ Us) u m front (n + 1) counted1 may.0)

      grown3 : Grown Ropened Rexited
      grown3 = grown_then Ropened Rpointed Rexited (grown_point Ropened (point_at front None)) (grown_noted Rpointed g.box_no Exit)

      opens3 : Opens Ropened Rexited
      opens3 = opens_then Ropened Rpointed Rexited (opens_point Ropened (point_at front None)) (opens_exit Rpointed g.box_no)

      front_there : point_in Rexited m ≡ Some (point_at front None)
      front_there = (grown_noted Rpointed g.box_no Exit).points m (point_at front None) (get-last Ropened.points (point_at front None) m counted.points)

      module _ (V : Recorded) (n' m' : ℕ) (a : After Rexited m V n' m') where
        abbrev Rredone : Recorded
        Rredone = noted V g.box_no Redo

        grown4 : Grown Ropened Rredone
        grown4 = grown_then Ropened Rexited Rredone grown3 (grown_then Rexited V Rredone a.grown (grown_noted V g.box_no Redo))

        opens4 : Opens Ropened Rredone
        opens4 = opens_then Ropened Rexited Rredone opens3 (opens_then Rexited V Rredone a.opens (opens_redo V g.box_no))

        asked4 : Asked Rredone g.box_no f.point g.atom false
        asked4 = asked-grown Ropened Rredone grown4 opens4 g.box_no f.point g.atom false (asked1 false builtin)

        exit4 : (s : ℕ → Term) → IsTrueAtom (apply s g.atom) → HasExit Rredone g.box_no (apply s g.atom)
        exit4 s holds =
            let i : IsInstance (apply (followed_by renaming s) goal) front.tuple.head = true_is_solved (f ∷ G) (apply_frames u (f ∷ G)) front g m goal (followed_by renaming s) is made (subst IsTrueAtom (apply-followed_by renaming s goal) holds) in
            record {
              number = m;
              point = point_at front None;
              there = (grown_noted V g.box_no Redo).points m (point_at front None) (a.grown.points m (point_at front None) front_there);
              owner = refl;
              is_exit = refl;
              instance =
                  subst (λ x. IsInstance x (canonical_tuple front.tuple).head) (sym (apply-followed_by renaming s goal))
                  (IsInstance-trans (apply (followed_by renaming s) goal) front.tuple.head (canonical_tuple front.tuple).head i (IsInstance-head front.tuple (canonical_tuple front.tuple) (IsTupleInstance-canonical front.tuple)));
            }

        none4 : EntersNone (length R.boxes) (length R.points) Rredone
        none4 i p le at first = either (eq-or-lt_of_le le)
          where
            here : point_in V i ≡ Some p
            here = rw points_noted at at

            either : (length R.points ≡ i) ⊎ (length R.points < i) → length R.boxes < p.owner
            either (inl same) =
                let i_is : m ≡ i = sym counted.points ∙ same in
                let q : point_in V i ≡ Some (point_at front None) = subst (λ j. point_in V j ≡ Some (point_at front None)) i_is (a.grown.points m (point_at front None) front_there) in
                let owner : p.owner ≡ g.box_no = ap (λ (x : Point). x.owner) (get-one (point_in V i) p (point_at front None) here q) in
                omega (arith, owner, is_new)
            either (inr past) = (let lt = a.none i p (omega (arith, past, counted3.points, counted.points)) here first in omega (arith, lt, counted3.boxes, counted.boxes))

        asked_v : Asked V g.box_no f.point g.atom false
        asked_v = asked-grown Ropened V (grown_then Ropened Rexited V grown3 a.grown) (opens_then Ropened Rexited V opens3 a.opens) g.box_no f.point g.atom false (asked1 false builtin)

        redo_noted : AreChained Rredone × ((o : ℕ) → IsInnermost V o → IsInnermost Rredone o)
        redo_noted = builtin_noted V Redo a.counted.kept a.counted.chained asked_v ((grown_then Ropened Rexited V grown3 a.grown).points f.point caller_point stack.placed.0.there)

        counted4 : Counted Rredone n' m'
        counted4 = counted_noted V g.box_no Redo n' m' redo_noted.0 a.counted

        fail_noted : AreChained (noted Rredone g.box_no Fail) × ((o : ℕ) → IsInnermost Rredone o → IsInnermost (noted Rredone g.box_no Fail) o)
        fail_noted = builtin_noted Rredone Fail counted4.kept redo_noted.0 asked4 (grown4.points f.point caller_point stack.placed.0.there)

        closes : Closing P R Rredone g f.point n' m'
        closes =
            record {
              waits = waits_for Rredone g.box_no f.point g.atom false asked4;
              counted = counted4;
              caller = caller_point;
              goal = in_point.0;
              caller_there = grown4.points f.point caller_point stack.placed.0.there;
              has_goal = in_point.1;
              settled = (let e : m ≡ f.point + 1 = omega (arith, newest.newest) in settled_noted V g.box_no (f.point + 1) Redo (subst (Settled V) e a.settled));
              enters = λ user. (let bad : true ≡ false = sym user ∙ asked4.user_is in cc);
              exits = λ e s ground holds. subst (λ x. HasExit Rredone g.box_no (apply s x)) (sym asked4.atom_is) (exit4 s (subst (λ x. IsTrueAtom (apply s x)) asked4.atom_is holds));
              grown = grown_then R Ropened Rredone grown1 grown4;
              opens = opens_then R Ropened Rredone opens1 opens4;
              none = none4;
              is_new = is_new;
              chained = fail_noted.0;
              top = λ o t. fail_noted.1 o (redo_noted.1 o (a.top o (top3 o t)));
            }

        over_meets : Meets P k V (over (left front (apply_frames u (f ∷ G))) g n' m') (After R f.point)
        over_meets =
            meets_passed P k V Redo (left front (apply_frames u (f ∷ G))) (closing g n' m') (After R f.point) ((asked_v.row, asked_v.there), redo_noted.0) (closing_meets P R Rredone g f.point n' m' closes k)

      succeeded_meets : Meets P k Ropened (succeeded next g (front ∷ apply_frames u (f ∷ G)) (n + 1) m) (After R f.point)
      succeeded_meets = either (is_large front.tuple)
        where
          exit_at : IsExitAt Rpointed g.box_no (canonical front.tuple.head)
          exit_at =
              let last : length Rpointed.points - 1 ≡ m = omega (arith, counted2.points) in
              record {
                box = (asked2.row, asked2.there);
                point = point_at front None;
                there = rw last (get-last Ropened.points (point_at front None) m counted.points);
                owner = refl;
                is_exit = refl;
                head =
                    AreVariants_from_instances (canonical_tuple front.tuple).head front.tuple.head (IsInstance-head front.tuple (canonical_tuple front.tuple) (IsTupleInstance-canonical front.tuple))
                    (IsInstance-head (canonical_tuple front.tuple) front.tuple (canonical_is_instance front.tuple)) ∙ sym (canonical-canonical front.tuple.head);
              }

          exited : Meets P k Rpointed (emit (at_port Exit (left front (apply_frames u (f ∷ G)))) (and_then (hand next (apply_frames u (f ∷ G)) front.point (n + 1) (m + 1)) (over (left front (apply_frames u (f ∷ G))) g))) (After R f.point)
          exited =
              meets_passed P k Rpointed Exit (left front (apply_frames u (f ∷ G))) (and_then (hand next (apply_frames u (f ∷ G)) front.point (n + 1) (m + 1)) (over (left front (apply_frames u (f ∷ G))) g)) (After R f.point) (exit_at, exit_noted.0)
              (meets_then P k Rexited (hand next (apply_frames u (f ∷ G)) front.point (n + 1) (m + 1)) (over (left front (apply_frames u (f ∷ G))) g) (After Rexited m) (After R f.point)
              (hand_meets P k next next_meets front (apply_frame u f) (apply_frames u G) (canonical_tuple front.tuple) T Us (n + 1) (m + 1) Rexited stack3 counted3 (omega arith) refl (top3 f.box_no newest.top))
              over_meets)

          either : (b : Bool) → Meets P k Ropened (if b then emit (Error Size g.box_no) (nothing (n + 1) m) else emit (point_of front None) (emit (at_port Exit (left front (apply_frames u (f ∷ G)))) (and_then (hand next (apply_frames u (f ∷ G)) front.point (n + 1) (m + 1)) (over (left front (apply_frames u (f ∷ G))) g)))) (After R f.point)
          either true = meets_error P k Ropened Size g.box_no (n + 1) m (After R f.point)
          either false = meets_made P k Ropened (point_at front None) (emit (at_port Exit (left front (apply_frames u (f ∷ G)))) (and_then (hand next (apply_frames u (f ∷ G)) front.point (n + 1) (m + 1)) (over (left front (apply_frames u (f ∷ G))) g))) (After R f.point) may exited

    -- what comes of the goal
    settled_meets : (x : Solution) → solution (f ∷ G) g m ≡ x → Meets P k Ropened (settled next (clauses_for g.atom P) (f ∷ G) g x (n + 1) m) (After R f.point)
    settled_meets of_program e = program_meets (is_user_by (f ∷ G) g m goal is e)
    settled_meets (faulted c) e = meets_error P k Ropened c g.box_no (n + 1) m (After R f.point)
    settled_meets failed e = failed_meets (is_builtin_by (f ∷ G) g m goal is (λ h. (let bad : of_program ≡ failed = sym h ∙ e in cc))) e
    settled_meets (solved H) e =
        let x = solving-is (f ∷ G) g m H e in
        let same : x.goal ≡ goal = get-one (goal_of f) x.goal goal x.is is in
        let frames : H ≡ apply_frames x.solver (built g goal m ∷ f ∷ G) = x.frames ∙ ap (λ a. apply_frames x.solver (built g a m ∷ f ∷ G)) same in
        subst (λ K. Meets P k Ropened (succeeded next g K (n + 1) m) (After R f.point)) (sym frames)
        (succeeded_meets (is_builtin_by (f ∷ G) g m goal is (λ h. (let bad : of_program ≡ solved H = sym h ∙ e in cc))) x.solver (e ∙ ap solved frames))

    goal_meets : Meets P (suc k) R (turn next P (Goal g) (f ∷ G) n m) (After R f.point)
    goal_meets =
        meets_port P k R Call g (settled next (clauses_for g.atom P) (f ∷ G) g (solution (f ∷ G) g m) (n + 1) m) (After R f.point)
        ((may_call, omega (arith, counted.boxes)), chained1) (settled_meets (solution (f ∷ G) g m) refl)

  -- a frame whose body is solved exits, or answers
  module _ (R : Recorded) (f : Frame) (G : List Frame) (T : Tuple) (Us : List Tuple) (n m : ℕ) (is : goal_of f ≡ None) (stack : Stack R (f ∷ G) (T ∷ Us)) (counted : Counted R n m) (newest : IsNewest R f T m) where
    abbrev Rx : Recorded
    Rx = noted R f.box_no Exit

    -- the query's frame
    answers_meets : f.box_no ≡ 0 → Meets P (suc k) R (turn next P (Answers (canonical f.tuple.head)) (f ∷ G) n m) (After R f.point)
    answers_meets zero_is = ((may_answer, tt), λ w. record { grown = grown_same R; opens = opens_same R; none = none; counted = counted; settled = settled; top = λ o t. t })
      where
        may_answer : IsAnswerOf R (canonical f.tuple.head)
        may_answer =
            let newest_is : length R.points - 1 ≡ f.point = omega (arith, counted.points, newest.newest) in
            record {
              point = record { owner = f.box_no; clause = f.clause; done = f.done; tuple = T; before = stack.placed.0.before };
              there = rw newest_is stack.placed.0.there;
              owner = zero_is;
              is_exit = point_exit f T stack.placed.0.instance is;
              head = AreVariants_from_instances T.head f.tuple.head (IsInstance-head f.tuple T stack.placed.0.instance) (IsInstance-head T f.tuple newest.as_made) ∙ sym (canonical-canonical f.tuple.head);
            }

        none : EntersNone (length R.boxes) (length R.points) R
        none i p le at first = absurd (let lt = slice_get_within R.points i p at in omega (arith, lt, le))

        settled : Settled R f.point
        settled i p le at =
            let lt = slice_get_within R.points i p at in
            let i_is : f.point ≡ i = omega (arith, lt, le, counted.points, newest.newest) in
            let there : point_in R i ≡ Some (record { owner = f.box_no; clause = f.clause; done = f.done; tuple = T; before = stack.placed.0.before }) = subst (λ j. point_in R j ≡ Some (record { owner = f.box_no; clause = f.clause; done = f.done; tuple = T; before = stack.placed.0.before })) i_is stack.placed.0.there in
            let same : record { owner = f.box_no; clause = f.clause; done = f.done; tuple = T; before = stack.placed.0.before } ≡ p = get-one (point_in R i) (record { owner = f.box_no; clause = f.clause; done = f.done; tuple = T; before = stack.placed.0.before }) p there at in
            let exit : slice_get T.body f.done ≡ None = point_exit f T stack.placed.0.instance is in
            let handed : IsHanded R i (record { owner = f.box_no; clause = f.clause; done = f.done; tuple = T; before = stack.placed.0.before }) f.box_no = rw zero_is tt in
            subst (λ q. IsSettled R i q (goal_left q)) same (subst (λ o. IsSettled R i (record { owner = f.box_no; clause = f.clause; done = f.done; tuple = T; before = stack.placed.0.before }) o) (sym exit) handed)

    -- its box exits, and the search comes back to it
    module _ (e : Frame) (E : List Frame) (U : Tuple) (Vs : List Tuple) (G_is : G ≡ e ∷ E) (Us_is : Us ≡ U ∷ Vs) where
      w : Waits R f.box_no e.point
      w = subst (InFront R f.box_no) G_is stack.boxed.0

      stack_in : Stack R (f ∷ e ∷ E) (T ∷ U ∷ Vs)
      stack_in = subst (λ K. Stack R (f ∷ K) (T ∷ U ∷ Vs)) G_is (subst (λ K. Stack R (f ∷ G) (T ∷ K)) Us_is stack)

      abbrev around : Point
      around = record { owner = e.box_no; clause = e.clause; done = e.done; tuple = U; before = stack_in.placed.1.0.before }

      around_there : point_in R w.row.from ≡ Some around
      around_there = ap (λ i. point_in R i) w.from ∙ stack_in.placed.1.0.there

      exited : AreChained Rx × IsInnermost Rx e.box_no
      exited = chained_left R f.box_no Exit w.row w.there counted.kept around around_there refl counted.chained newest.top

      active : IsActive R f.box_no
      active = by_is newest.top.is
        where
          by_is : (f.box_no ≡ 0) ⊎ IsActive R f.box_no → IsActive R f.box_no
          by_is (inl z) = let bad : None ≡ Some w.row = subst (λ b. box_at R b ≡ Some w.row) z w.there in cc
          by_is (inr a) = a

      exit_at : IsExitAt R f.box_no (canonical f.tuple.head)
      exit_at =
          let newest_is : length R.points - 1 ≡ f.point = omega (arith, counted.points, newest.newest) in
          record {
            box = (w.row, w.there);
            point = record { owner = f.box_no; clause = f.clause; done = f.done; tuple = T; before = stack.placed.0.before };
            there = rw newest_is stack.placed.0.there;
            owner = refl;
            is_exit = point_exit f T stack.placed.0.instance is;
            head = AreVariants_from_instances T.head f.tuple.head (IsInstance-head f.tuple T stack.placed.0.instance) (IsInstance-head T f.tuple newest.as_made) ∙ sym (canonical-canonical f.tuple.head);
          }

      handed : Meets P k Rx (hand next G f.point n m) (After Rx f.point)
      handed =
          subst (λ K. Meets P k Rx (hand next K f.point n m) (After Rx f.point)) (sym G_is)
          (hand_meets P k next next_meets f e E T U Vs n m Rx (stack-grown R Rx (grown_noted R f.box_no Exit) (opens_exit R f.box_no) (f ∷ e ∷ E) (T ∷ U ∷ Vs) stack_in) (counted_noted R f.box_no Exit n m exited.0 counted) newest.newest is exited.1)

      module _ (V : Recorded) (n' m' : ℕ) (a : After Rx f.point V n' m') where
        since : Grown R V
        since = grown_then R Rx V (grown_noted R f.box_no Exit) a.grown

        box_after : (c : BoxRow) × (box_at V f.box_no ≡ Some c) × IsSameCall w.row c
        box_after = box_still R V since f.box_no w.row w.there

        user : box_after.0.is_user ≡ true
        user = box_after.2.user ∙ ap (λ (b : BoxRow). b.is_user) (get-one (box_at R f.box_no) w.row active.row w.there active.there) ∙ active.user

        returned : AreChained (noted V f.box_no Redo) × IsInnermost (noted V f.box_no Redo) f.box_no
        returned =
            chained_back V f.box_no Redo box_after.0 box_after.1 a.counted.kept around
            (ap (λ i. point_in V i) box_after.2.from ∙ since.points w.row.from around around_there) refl user a.counted.chained (a.top e.box_no exited.1)

        -- the search comes back to the box
        after_redo : After R f.point (noted V f.box_no Redo) n' m'
        after_redo =
            record {
              grown = grown_then R V (noted V f.box_no Redo) since (grown_noted V f.box_no Redo);
              opens = opens_then R Rx (noted V f.box_no Redo) (opens_exit R f.box_no) (opens_then Rx V (noted V f.box_no Redo) a.opens (opens_redo V f.box_no));
              none = λ i p le at first. (let lt = a.none i p (rw points_noted le) (rw points_noted at at) first in omega (arith, lt, noted_boxes R f.box_no Exit (length R.boxes) refl));
              counted = counted_noted V f.box_no Redo n' m' returned.0 a.counted;
              settled = settled_noted V f.box_no f.point Redo a.settled;
              top = λ o t. subst (IsInnermost (noted V f.box_no Redo)) (innermost_one R f.box_no o newest.top t) returned.1;
            }

        redone : Meets P k V (again (left f G) n' m') (After R f.point)
        redone = meets_passed P k V Redo (left f G) (nothing n' m') (After R f.point) ((box_after.0, box_after.1), returned.0) (meets_nothing P k (noted V f.box_no Redo) n' m' (After R f.point) after_redo)

      exits_meets : Meets P (suc k) R (turn next P (Exits (left f G) f.point) (f ∷ G) n m) (After R f.point)
      exits_meets =
          meets_port P k R Exit (left f G) (and_then (hand next G f.point n m) (again (left f G))) (After R f.point) (exit_at, exited.0)
          (meets_then P k Rx (hand next G f.point n m) (again (left f G)) (After Rx f.point) (After R f.point) handed redone)

    done_meets : Meets P (suc k) R (turn next P (look_at None f G (n + 1)) (f ∷ G) n m) (After R f.point)
    done_meets = either (f.box_no == 0) refl
      where
        outward : (K : List Frame) (Ws : List Tuple) → G ≡ K → Us ≡ Ws → (f.box_no == 0) ≡ false → Stack R (f ∷ K) (T ∷ Ws) → Meets P (suc k) R (turn next P (Exits (left f G) f.point) (f ∷ G) n m) (After R f.point)
        outward [] Ws G_is Us_is other s = let z : f.box_no ≡ 0 = s.boxed.0 in absurd (grind (arith, nat_tests))
        outward (e ∷ E) [] G_is Us_is other s = absurd s.placed.1
        outward (e ∷ E) (U ∷ Vs) G_is Us_is other s = exits_meets e E U Vs G_is Us_is

        either : (b : Bool) → (f.box_no == 0) ≡ b → Meets P (suc k) R (turn next P (if b then Answers (canonical f.tuple.head) else Exits (left f G) f.point) (f ∷ G) n m) (After R f.point)
        either true e = let z : f.box_no ≡ 0 = grind (arith, nat_tests) in answers_meets z
        either false e = outward G Us refl refl e stack

  turn_meets : (R : Recorded) (f : Frame) (G : List Frame) (T : Tuple) (Us : List Tuple) (n m : ℕ) (o : Option Term) → goal_of f ≡ o → IsReady R (f ∷ G) (T ∷ Us) n m → Meets P (suc k) R (turn next P (look_at o f G (n + 1)) (f ∷ G) n m) (After R f.point)
  turn_meets R f G T Us n m (Some a) is ready = goal_meets R f G T Us n m a is ready.0 ready.1.0 ready.1.1
  turn_meets R f G T Us n m None is ready = done_meets R f G T Us n m is ready.0 ready.1.0 ready.1.1

module _ (P : List Tuple) (heads : (c : ℕ) (r : Tuple) → clause_of P c ≡ Some r → IsAtom r.head) (clauses : (c : ℕ) (r : Tuple) → clause_of P c ≡ Some r → AreAtoms r.body) where
  pub search_meets : (k : ℕ) (F : List Frame) (Ts : List Tuple) (n m : ℕ) (R : Recorded) → IsReady R F Ts n m → Meets P k R (search_from P k F n m) (After R (start_of F))
  search_meets k [] Ts n m R ready = elim ready [ ]
  search_meets k (f ∷ G) [] n m R ready = elim ready [ ]
  search_meets zero (f ∷ G) (T ∷ Us) n m R ready = (tt, λ w. elim w [ ])
  search_meets (suc k) (f ∷ G) (T ∷ Us) n m R ready = turn_meets P heads clauses k (search_from P k) (search_meets k) R f G T Us n m (goal_of f) refl ready

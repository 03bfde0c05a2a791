-- The clauses that are tried for a goal.
use Rattle.std.proofs.Common.{◌≡◌, ◌≢◌, ℕ, zero, suc, ◌+◌, ◌<◌, ◌≤◌, List, [], ◌∷◌, length, refl, sym, ◌∙◌, ap, subst, arith, Option, Some, None, Bool, true, false, ◌⊎◌, inl, inr}
use Rattle.std.specs.Prelude.{slice_get, if◌then◌else◌}
use Rattle.std.proofs.Math.Nat.{eq-or-lt_of_le}
use Rattle.apd_term.specs.Term.{Term, variable, variables}
use Rattle.apd_term.specs.Canonical.{canonical, by_appearance, place_of}
use Rattle.apd_term.specs.Substitution.{IsInstance, Unifies}
use Rattle.apd_term.specs.Tuple.{canonical_tuple, IsTupleInstance}
use Rattle.apd_causes.specs.declared.run.RunError.TheVariants.{Size}
use Rattle.apd_term.specs.declared.tuple.Tuple.{Tuple}
use Rattle.apd_term.proofs.Tuples.{IsTupleInstance-trans, IsInstance-head, IsTupleInstance-canonical, canonical_is_instance}
use Rattle.apd_term.proofs.Variants.{IsInstance-trans, IsInstance-canonical}
use Rattle.apd_ports.specs.declared.event.Port.TheVariants.{Fail}
use Rattle.apd_ports.specs.declared.point.Point.{Point}
use Rattle.apd_ports.specs.declared.point.Step.{Step}
use Rattle.apd_record.specs.Recorded.{Recorded, box_at, point_at as point_in, with_point, noted}
use Rattle.apd_record.specs.declared.rows.BoxRow.{BoxRow}
use Rattle.apd_record.specs.Sound.{clause_of, IsKept, IsOpen, IsFirst, IsFirstIn, SucceedsIn, ComeAlike, MayMake}
use Rattle.apd_record.specs.Chain.{IsInnermost, AreChained}
use Rattle.apd_record.specs.Full.{IsGroundTuple, IsEntered}
use Rattle.apd_record.proofs.Lists.{get-last, get-one, longer}
use Rattle.apd_record.proofs.Growing.{Grown, grown_then, grown_point, box_still, entered-grown}
use Rattle.apd_record.proofs.Keeping.{kept_point, box_below}
use Rattle.apd_record.proofs.Chains.{chained_point, innermost_point, innermost_one, chained_left}
use Rattle.apd_trace.specs.Frames.{apply_frame, apply_frames, goal_of, is_large, point_at, apart, above, variables_of_frames, entered, entering}
use Rattle.apd_trace.specs.Trace.{Next, nothing, emit, and_then, point_of, begun, tried, tries}
use Rattle.apd_trace.specs.Renaming.{AreLinked}
use Rattle.apd_trace.specs.declared.frame.Frame.{Frame}
use Rattle.apd_trace.specs.declared.frame.Called.{Called}
use Rattle.apd_trace.specs.declared.item.Item.TheVariants.{Made, Error}
use Rattle.apd_trace.proofs.Linked.{linked_entering}
use Rattle.apd_recorded.specs.Told.{May}
use Rattle.apd_recorded.specs.Joint.{IsJoint}
use Rattle.apd_recorded.proofs.Lifting.{entering-is, joint_entering, lifted_entering}
use Rattle.apd_recorded.proofs.Tried.{Stands, Rise, Rise-less, AreAtoms, AreAtoms-apply}
use Rattle.apd_recorded.proofs.Logic.{Meets, meets_then, meets_made, meets_error}
use Rattle.apd_recorded.proofs.State.{Opens, opens_then, opens_point, Waits, InFront, Stack, Counted, IsNewest, IsReady, start_of, Settled, EntersNone, After, stack-grown, settled_on, old_or_new, in_front-grown, in_front-apply, placed-apply, boxed-apply, fit-apply, atoms-apply, head_fits}
use Rattle.apd_recorded.proofs.Handing.{Closing, closing_meets, from_below}

-- box n waits for what comes of its goal
pub record Asked (R : Recorded) (n i : ℕ) (atom : Term) (user : Bool) : Type 0 where
  pub row : BoxRow
  pub there : box_at R n ≡ Some row
  pub from : row.from ≡ i
  pub is_open : row.complete ≡ false
  pub atom_is : row.atom ≡ atom
  pub user_is : row.is_user ≡ user

abbrev pub waits_for : (R : Recorded) (n i : ℕ) (atom : Term) (user : Bool) → Asked R n i atom user → Waits R n i
waits_for R n i atom user h = record { row = h.row; there = h.there; from = h.from; is_open = h.is_open }

pub asked-grown : (R S : Recorded) → Grown R S → Opens R S → (n i : ℕ) (atom : Term) (user : Bool) → Asked R n i atom user → Asked S n i atom user
asked-grown R S grown opens zero i atom user h = let bad : None ≡ Some h.row = h.there in cc
asked-grown R S grown opens (suc n) i atom user h =
    let x = box_still R S grown (suc n) h.row h.there in
    let y = opens n h.row h.there h.is_open in
    record {
      row = x.0;
      there = x.1;
      from = x.2.from ∙ h.from;
      is_open = ap (λ (b : BoxRow). b.complete) (get-one (slice_get S.boxes n) x.0 y.0 x.1 y.1) ∙ y.2;
      atom_is = x.2.atom ∙ h.atom_is;
      user_is = x.2.user ∙ h.user_is;
    }

pub asked_open : (R : Recorded) (n i : ℕ) (atom : Term) (user : Bool) → Asked R n i atom user → IsOpen R n
asked_open R zero i atom user h = tt
asked_open R (suc n) i atom user h = (h.row, h.there, h.is_open)

-- a first point in a box
first_of : (R : Recorded) (i : ℕ) (p : Point) (n : ℕ) → IsFirstIn R i p n → IsFirst R i p n
first_of R i p zero h = let bad : None ≡ Some h.row = h.there in cc
first_of R i p (suc n) h = h

-- a frame that is entered for a called goal, at point m: what is needed of it
pub record IsEntry (R : Recorded) (g : Called) (from : ℕ) (user : Bool) (f : Frame) (m : ℕ) : Type 0 where
  pub asked : Asked R g.box_no from g.atom user
  pub box : f.box_no ≡ g.box_no
  pub undone : f.done ≡ 0
  pub point : f.point ≡ m
  pub head : IsInstance f.tuple.head g.atom
  pub success : SucceedsIn user (point_at f None)
  pub is_new : (i : ℕ) (q : Point) → point_in R i ≡ Some q → q.before ≡ None → q.owner ≡ g.box_no → q.clause ≢ f.clause

-- its point may be made
pub may_enter : (R : Recorded) (g : Called) (from : ℕ) (user : Bool) (f : Frame) (m : ℕ) → IsEntry R g from user f m → MayMake R (point_at f None)
may_enter R g from user f m h =
    record {
      came = (
        h.undone,
        first_of R (length R.points) (point_at f None) f.box_no (record {
          row = h.asked.row;
          there = ap (box_at R) h.box ∙ h.asked.there;
          head = subst (λ a. IsInstance (canonical_tuple f.tuple).head a) (sym h.asked.atom_is) (IsInstance-trans (canonical_tuple f.tuple).head f.tuple.head g.atom (IsInstance-head (canonical_tuple f.tuple) f.tuple (canonical_is_instance f.tuple)) h.head);
          success = subst (λ u. SucceedsIn u (point_at f None)) (sym h.asked.user_is) h.success;
        }),
      );
      is_new = λ i q at alike. fresh i q q.before refl at alike;
      is_open = subst (IsOpen R) (sym h.box) (asked_open R g.box_no from g.atom user h.asked);
    }
  where
    fresh : (i : ℕ) (q : Point) (before : Option Step) → q.before ≡ before → point_in R i ≡ Some q → ComeAlike q (point_at f None) before None → ⊥
    fresh i q None first at alike = h.is_new i q at first (alike.0 ∙ h.box) alike.1
    fresh i q (Some s) first at alike = alike

-- the frames with it in front, once its point is made
module _ (R : Recorded) (F : List Frame) (Ts : List Tuple) (s : ℕ → Term) (m : ℕ) (f : Frame) where
  pub stack_entered : Stack R F Ts → InFront R f.box_no F → length R.points ≡ m → f.point ≡ m → AreLinked (f ∷ apply_frames s F) → IsJoint (f ∷ apply_frames s F) (canonical_tuple f.tuple ∷ Ts) → AreAtoms f.tuple.body → Stack (with_point R (point_at f None)) (f ∷ apply_frames s F) (canonical_tuple f.tuple ∷ Ts)
  stack_entered stack front count at linked joint atoms =
      let grown : Grown R (with_point R (point_at f None)) = grown_point R (point_at f None) in
      let opens : Opens R (with_point R (point_at f None)) = opens_point R (point_at f None) in
      let stack' : Stack (with_point R (point_at f None)) F Ts = stack-grown R (with_point R (point_at f None)) grown opens F Ts stack in
      record {
        placed = (
          record { before = None; there = get-last R.points (point_at f None) f.point (count ∙ sym at); instance = IsTupleInstance-canonical f.tuple },
          placed-apply s (with_point R (point_at f None)) F Ts stack'.placed,
        );
        boxed = (
          in_front-apply s (with_point R (point_at f None)) f.box_no F (in_front-grown R (with_point R (point_at f None)) grown opens f.box_no F front),
          boxed-apply s (with_point R (point_at f None)) F stack'.boxed,
        );
        linked = linked;
        joint = joint;
        fit = (head_fits f (apply_frames s F) R Ts (canonical_tuple f.tuple) linked (placed-apply s R F Ts stack.placed) (canonical_is_instance f.tuple), fit-apply s F Ts stack.fit);
        atoms = (atoms, atoms-apply s F stack.atoms);
      }

  -- and its point is the newest
  pub newest_entered : IsKept R → IsInnermost R f.box_no → length R.points ≡ m → f.point ≡ m → IsNewest (with_point R (point_at f None)) f (canonical_tuple f.tuple) (m + 1)
  newest_entered kept top count at =
      record {
        newest = omega (arith, at);
        as_made = canonical_is_instance f.tuple;
        childless = λ n b h. below n b h;
        top = innermost_point R (point_at f None) f.box_no top;
      }
    where
      below : (n : ℕ) (b : BoxRow) → box_at (with_point R (point_at f None)) n ≡ Some b → b.from < f.point
      below zero b h = cc
      below (suc n) b h = omega (arith, count, at, from_below R (suc n) b kept h)

  pub counted_entered : (n : ℕ) → Counted R n m → MayMake R (point_at f None) → Counted (with_point R (point_at f None)) n (m + 1)
  counted_entered n counted may = record { kept = kept_point R (point_at f None) may counted.kept; chained = chained_point R (point_at f None) counted.kept counted.chained; boxes = counted.boxes; points = longer R.points (point_at f None) m counted.points }

-- the clause has been entered for all its instances that the goal allows
abbrev pub IsTriedOut : Recorded → Called → ℕ → Tuple → Type 0
IsTriedOut R g c r = (t : Tuple) → IsGroundTuple t → IsTupleInstance t r → IsInstance t.head g.atom → IsEntered R g.box_no c t

-- while the clauses cs of those for the goal are still to be tried
pub record Trying (P : List Tuple) (B R : Recorded) (f : Frame) (G : List Frame) (T : Tuple) (Us : List Tuple) (g : Called) (goal : Term) (cs : List (ℕ × Tuple)) (n m : ℕ) : Type 0 where
  pub stack : Stack R (f ∷ G) (T ∷ Us)
  pub counted : Counted R n m
  pub asked : Asked R g.box_no f.point g.atom true
  pub goal_left : slice_get T.body f.done ≡ Some goal
  pub settled : Settled R (f.point + 1)
  pub low : ℕ
  pub rise : Rise low cs
  pub below : (i : ℕ) (q : Point) → point_in R i ≡ Some q → q.before ≡ None → q.owner ≡ g.box_no → q.clause < low
  pub programs : (c : ℕ) (r : Tuple) → Stands cs c r → clause_of P c ≡ Some r
  pub tried : (c : ℕ) (r t : Tuple) → clause_of P c ≡ Some r → IsTupleInstance t r → IsInstance t.head g.atom → Stands cs c r ⊎ IsTriedOut R g c r
  pub grown : Grown B R
  pub opens : Opens B R
  pub none : EntersNone (length B.boxes) (length B.points) R
  pub is_new : length B.boxes < g.box_no
  pub is_there : g.box_no ≤ n
  pub top : IsInnermost R g.box_no
  pub base : IsInnermost B f.box_no

module _ (P : List Tuple) (clauses : (c : ℕ) (r : Tuple) → clause_of P c ≡ Some r → AreAtoms r.body) (k : ℕ) (next : Next) (next_meets : (F : List Frame) (Ts : List Tuple) (n m : ℕ) (R : Recorded) → IsReady R F Ts n m → Meets P k R (next F n m) (After R (start_of F))) where
  module _ (B : Recorded) (f : Frame) (G : List Frame) (T : Tuple) (Us : List Tuple) (g : Called) (goal point_goal : Term) (is : goal_of f ≡ Some goal) (atom : g.atom ≡ canonical goal) where
    -- no clause is left
    tried_closing : (R : Recorded) (n m : ℕ) → Trying P B R f G T Us g point_goal [] n m → Closing P B R g f.point n m
    tried_closing R n m h =
        record {
          waits = waits_for R g.box_no f.point g.atom true h.asked;
          counted = h.counted;
          caller = record { owner = f.box_no; clause = f.clause; done = f.done; tuple = T; before = h.stack.placed.0.before };
          goal = point_goal;
          caller_there = h.stack.placed.0.there;
          has_goal = h.goal_left;
          settled = h.settled;
          enters = λ user c rule t there ground of_rule of_goal. either c rule t ground of_rule (subst (IsInstance t.head) h.asked.atom_is of_goal) (h.tried c rule t there of_rule (subst (IsInstance t.head) h.asked.atom_is of_goal));
          exits = λ builtin. (let bad : true ≡ false = sym h.asked.user_is ∙ builtin in cc);
          grown = h.grown;
          opens = h.opens;
          none = h.none;
          is_new = h.is_new;
          chained = left.0;
          top = λ o t. subst (IsInnermost (noted R g.box_no Fail)) (innermost_one B f.box_no o h.base t) left.1;
        }
      where
        left : AreChained (noted R g.box_no Fail) × IsInnermost (noted R g.box_no Fail) f.box_no
        left =
            chained_left R g.box_no Fail h.asked.row h.asked.there h.counted.kept (record { owner = f.box_no; clause = f.clause; done = f.done; tuple = T; before = h.stack.placed.0.before })
            (ap (λ i. point_in R i) h.asked.from ∙ h.stack.placed.0.there) refl h.counted.chained h.top

        either : (c : ℕ) (rule t : Tuple) → IsGroundTuple t → IsTupleInstance t rule → IsInstance t.head g.atom → Stands [] c rule ⊎ IsTriedOut R g c rule → IsEntered R g.box_no c t
        either c rule t ground of_rule of_goal (inl none) = absurd none
        either c rule t ground of_rule of_goal (inr out) = out t ground of_rule of_goal

    -- a clause that can't be entered is tried out
    passed_over : (R : Recorded) (c : ℕ × Tuple) (cs : List (ℕ × Tuple)) (n m : ℕ) → entering (f ∷ G) g c.1 c.0 m ≡ None → Trying P B R f G T Us g point_goal (c ∷ cs) n m → Trying P B R f G T Us g point_goal cs n m
    passed_over R c cs n m none h =
        record {
          stack = h.stack;
          counted = h.counted;
          asked = h.asked;
          goal_left = h.goal_left;
          settled = h.settled;
          low = h.low;
          rise = Rise-less h.low (c.0 + 1) cs (omega (arith, h.rise.0)) h.rise.1;
          below = h.below;
          programs = λ d r stands. h.programs d r (inr stands);
          tried = λ d r t there of_rule of_goal. either d r t of_rule of_goal (h.tried d r t there of_rule of_goal);
          grown = h.grown;
          opens = h.opens;
          none = h.none;
          is_new = h.is_new;
          is_there = h.is_there;
          top = h.top;
          base = h.base;
        }
      where
        either : (d : ℕ) (r t : Tuple) → IsTupleInstance t r → IsInstance t.head g.atom → Stands (c ∷ cs) d r ⊎ IsTriedOut R g d r → Stands cs d r ⊎ IsTriedOut R g d r
        either d r t of_rule of_goal (inl (inl here)) =
            let of_c : IsTupleInstance t c.1 = subst (IsTupleInstance t) (sym here.1) of_rule in
            let of_it : IsInstance t.head goal = IsInstance-trans t.head (canonical goal) goal (subst (IsInstance t.head) atom of_goal) ((λ v. variable (place_of (by_appearance (variables goal)) v)), refl) in
            let x = lifted_entering (f ∷ G) g c.1 c.0 m goal t is of_c of_it None none in
            let bad : None ≡ Some x.0 = x.1 in
            cc
        either d r t of_rule of_goal (inl (inr later)) = inl later
        either d r t of_rule of_goal (inr out) = inr out

    -- a clause that is entered, under the unifier u
    module _ (R : Recorded) (c : ℕ × Tuple) (cs : List (ℕ × Tuple)) (n m : ℕ) (h : Trying P B R f G T Us g point_goal (c ∷ cs) n m) (u : ℕ → Term) (made : entering (f ∷ G) g c.1 c.0 m ≡ Some (apply_frames u (entered g (apart (f ∷ G) c.1) c.0 m ∷ f ∷ G))) (unifies : Unifies u goal (apart (f ∷ G) c.1).head) where
      abbrev front : Frame
      front = apply_frame u (entered g (apart (f ∷ G) c.1) c.0 m)

      abbrev with_front : Recorded
      with_front = with_point R (point_at front None)

      there : clause_of P c.0 ≡ Some c.1
      there = h.programs c.0 c.1 (inl (refl, refl))

      of_rule : IsTupleInstance (canonical_tuple front.tuple) c.1
      of_rule =
          IsTupleInstance-trans (canonical_tuple front.tuple) front.tuple c.1 (canonical_is_instance front.tuple)
          (IsTupleInstance-trans front.tuple (apart (f ∷ G) c.1) c.1 (u, refl) ((λ v. variable (above (variables_of_frames (f ∷ G)) + v)), refl))

      enters : IsEntry R g f.point true front m
      enters =
          record {
            asked = h.asked;
            box = refl;
            undone = refl;
            point = refl;
            head = subst (IsInstance front.tuple.head) (sym atom) (IsInstance-trans front.tuple.head goal (canonical goal) (u, unifies) (IsInstance-canonical goal));
            success = tt;
            is_new = λ i q at first owner same. (let lt = h.below i q at first owner in omega (arith, lt, h.rise.0, same));
          }

      may : May P R (Made (point_at front None))
      may = (may_enter R g f.point true front m enters, λ j b first owner box user. record { rule = c.1; there = there; instance = of_rule })

      ready : IsReady with_front (front ∷ apply_frames u (f ∷ G)) (canonical_tuple front.tuple ∷ T ∷ Us) n (m + 1)
      ready = (
        stack_entered R (f ∷ G) (T ∷ Us) u m front h.stack (waits_for R g.box_no f.point g.atom true h.asked) h.counted.points refl
            (linked_entering (f ∷ G) (front ∷ apply_frames u (f ∷ G)) g c.1 c.0 m h.stack.linked made)
            (joint_entering (f ∷ G) (front ∷ apply_frames u (f ∷ G)) g c.1 c.0 m (canonical_tuple front.tuple) (T ∷ Us) made h.stack.joint of_rule)
            (AreAtoms-apply u (apart (f ∷ G) c.1).body (AreAtoms-apply (λ v. variable (above (variables_of_frames (f ∷ G)) + v)) c.1.body (clauses c.0 c.1 there))),
        (
          counted_entered R (f ∷ G) (T ∷ Us) u m front n h.counted may.0,
          newest_entered R (f ∷ G) (T ∷ Us) u m front h.counted.kept h.top h.counted.points refl,
        ),
      )

      -- the clause is tried out, once its point is made
      out : (U : Recorded) → Grown with_front U → IsTriedOut U g c.0 c.1
      out U grown t ground of_c of_goal =
          let of_it : IsInstance t.head goal = IsInstance-trans t.head (canonical goal) goal (subst (IsInstance t.head) atom of_goal) ((λ v. variable (place_of (by_appearance (variables goal)) v)), refl) in
          let x = lifted_entering (f ∷ G) g c.1 c.0 m goal t is of_c of_it (Some (front ∷ apply_frames u (f ∷ G))) made in
          let same : x.0 ≡ front ∷ apply_frames u (f ∷ G) = sym (get-one (Some (front ∷ apply_frames u (f ∷ G))) (front ∷ apply_frames u (f ∷ G)) x.0 refl x.1) in
          record {
            number = m;
            point = point_at front None;
            there = grown.points m (point_at front None) (get-last R.points (point_at front None) m h.counted.points);
            owner = refl;
            clause = refl;
            first = refl;
            instance = IsTupleInstance-trans t front.tuple (canonical_tuple front.tuple) (x.2 front (apply_frames u (f ∷ G)) same) (IsTupleInstance-canonical front.tuple);
          }

      module _ (U : Recorded) (n' m' : ℕ) (a : After with_front m U n' m') where
        since : Grown R U
        since = grown_then R with_front U (grown_point R (point_at front None)) a.grown

        opens_since : Opens R U
        opens_since = opens_then R with_front U (opens_point R (point_at front None)) a.opens

        -- a new point without `before` is the clause's, or one of a new box
        firsts : (i : ℕ) (q : Point) → point_in U i ≡ Some q → q.before ≡ None → length R.points ≤ i → (q ≡ point_at front None) ⊎ (n < q.owner)
        firsts i q at first le = either (eq-or-lt_of_le le)
          where
            either : (length R.points ≡ i) ⊎ (length R.points < i) → (q ≡ point_at front None) ⊎ (n < q.owner)
            either (inl here) = inl (get-one (point_in U i) q (point_at front None) at (a.grown.points i (point_at front None) (get-last R.points (point_at front None) i here)))
            either (inr past) =
                let lt = a.none i q (omega (arith, past, longer R.points (point_at front None) (length R.points) refl)) at first in
                inr (omega (arith, lt, h.counted.boxes))

        rest_trying : Trying P B U f G T Us g point_goal cs n' m'
        rest_trying =
            record {
              stack = stack-grown R U since opens_since (f ∷ G) (T ∷ Us) h.stack;
              counted = a.counted;
              asked = asked-grown R U since opens_since g.box_no f.point g.atom true h.asked;
              goal_left = h.goal_left;
              settled = settled_on R U since (f.point + 1) h.settled (subst (Settled U) (sym h.counted.points) a.settled);
              low = c.0 + 1;
              rise = h.rise.1;
              below = λ i q at first owner. below_either i q at first owner (old_or_new R U since i q at);
              programs = λ d r stands. h.programs d r (inr stands);
              tried = λ d r t at of_r of_goal. tried_either d r (h.tried d r t at of_r of_goal);
              grown = grown_then B R U h.grown since;
              opens = opens_then B R U h.opens opens_since;
              none = λ i q le at first. none_either i q le at first (old_or_new R U since i q at);
              is_new = h.is_new;
              is_there = (let x = asked-grown R U since opens_since g.box_no f.point g.atom true h.asked in let le = box_below U g.box_no x.row x.there in omega (arith, le, a.counted.boxes));
              top = a.top g.box_no (innermost_point R (point_at front None) g.box_no h.top);
              base = h.base;
            }
          where
            below_new : (i : ℕ) (q : Point) → q.owner ≡ g.box_no → (q ≡ point_at front None) ⊎ (n < q.owner) → q.clause < c.0 + 1
            below_new i q owner (inl it) = let e : q.clause ≡ c.0 = ap (λ (x : Point). x.clause) it in omega (arith, e)
            below_new i q owner (inr lt) = absurd (omega (arith, lt, owner, h.is_there))

            below_either : (i : ℕ) (q : Point) → point_in U i ≡ Some q → q.before ≡ None → q.owner ≡ g.box_no → (point_in R i ≡ Some q) ⊎ (length R.points ≤ i) → q.clause < c.0 + 1
            below_either i q at first owner (inl old) = let lt = h.below i q old first owner in omega (arith, lt, h.rise.0)
            below_either i q at first owner (inr new) = below_new i q owner (firsts i q at first new)

            tried_either : (d : ℕ) (r : Tuple) → Stands (c ∷ cs) d r ⊎ IsTriedOut R g d r → Stands cs d r ⊎ IsTriedOut U g d r
            tried_either d r (inl (inl here)) = inr (subst (λ x. IsTriedOut U g x r) here.0 (subst (λ x. IsTriedOut U g c.0 x) here.1 (out U a.grown)))
            tried_either d r (inl (inr later)) = inl later
            tried_either d r (inr done) = inr (λ t ground of_r of_goal. entered-grown R U since g.box_no d t (done t ground of_r of_goal))

            none_new : (q : Point) → (q ≡ point_at front None) ⊎ (n < q.owner) → length B.boxes < q.owner
            none_new q (inl it) = let e : q.owner ≡ g.box_no = ap (λ (x : Point). x.owner) it in omega (arith, e, h.is_new)
            none_new q (inr lt) = omega (arith, lt, h.is_new, h.is_there)

            none_either : (i : ℕ) (q : Point) → length B.points ≤ i → point_in U i ≡ Some q → q.before ≡ None → (point_in R i ≡ Some q) ⊎ (length R.points ≤ i) → length B.boxes < q.owner
            none_either i q le at first (inl old) = h.none i q le old first
            none_either i q le at first (inr new) = none_new q (firsts i q at first new)

      begun_meets : ((U : Recorded) (n' m' : ℕ) → Trying P B U f G T Us g point_goal cs n' m' → Meets P k U (tries next (f ∷ G) g cs n' m') (After B f.point)) → Meets P k R (begun next g (tries next (f ∷ G) g cs) (front ∷ apply_frames u (f ∷ G)) n m) (After B f.point)
      begun_meets rest = either (is_large front.tuple)
        where
          either : (b : Bool) → Meets P k R (if b then emit (Error Size g.box_no) (nothing n m) else emit (point_of front None) (and_then (next (front ∷ apply_frames u (f ∷ G)) n (m + 1)) (tries next (f ∷ G) g cs))) (After B f.point)
          either true = meets_error P k R Size g.box_no n m (After B f.point)
          either false =
              meets_made P k R (point_at front None) (and_then (next (front ∷ apply_frames u (f ∷ G)) n (m + 1)) (tries next (f ∷ G) g cs)) (After B f.point) may
              (meets_then P k with_front (next (front ∷ apply_frames u (f ∷ G)) n (m + 1)) (tries next (f ∷ G) g cs) (After with_front m) (After B f.point)
              (next_meets (front ∷ apply_frames u (f ∷ G)) (canonical_tuple front.tuple ∷ T ∷ Us) n (m + 1) with_front ready)
              (λ U n' m' a. rest U n' m' (rest_trying U n' m' a)))

    tried_meets : (R : Recorded) (c : ℕ × Tuple) (cs : List (ℕ × Tuple)) (n m : ℕ) → Trying P B R f G T Us g point_goal (c ∷ cs) n m
        → ((U : Recorded) (n' m' : ℕ) → Trying P B U f G T Us g point_goal cs n' m' → Meets P k U (tries next (f ∷ G) g cs n' m') (After B f.point))
        → (x : Option (List Frame)) → entering (f ∷ G) g c.1 c.0 m ≡ x → Meets P k R (tried next g (tries next (f ∷ G) g cs) x n m) (After B f.point)
    tried_meets R c cs n m h rest None e = rest R n m (passed_over R c cs n m e h)
    tried_meets R c cs n m h rest (Some H) e =
        let x = entering-is (f ∷ G) g c.1 c.0 m H e in
        let same : x.goal ≡ goal = get-one (goal_of f) x.goal goal x.is is in
        let made : entering (f ∷ G) g c.1 c.0 m ≡ Some (apply_frames x.unifier (entered g (apart (f ∷ G) c.1) c.0 m ∷ f ∷ G)) = e ∙ ap Some x.frames in
        let unifies : Unifies x.unifier goal (apart (f ∷ G) c.1).head = subst (λ a. Unifies x.unifier a (apart (f ∷ G) c.1).head) same x.unifies in
        subst (λ K. Meets P k R (begun next g (tries next (f ∷ G) g cs) K n m) (After B f.point)) (sym x.frames) (begun_meets R c cs n m h x.unifier made unifies rest)

    pub tries_meets : (R : Recorded) (cs : List (ℕ × Tuple)) (n m : ℕ) → Trying P B R f G T Us g point_goal cs n m → Meets P k R (tries next (f ∷ G) g cs n m) (After B f.point)
    tries_meets R [] n m h = closing_meets P B R g f.point n m (tried_closing R n m h) k
    tries_meets R (c ∷ cs) n m h = tried_meets R c cs n m h (λ U n' m' t. tries_meets U cs n' m' t) (entering (f ∷ G) g c.1 c.0 m) refl

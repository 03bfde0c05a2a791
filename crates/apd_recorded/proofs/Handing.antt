-- An exit that is handed on, and a box that closes.
use Rattle.std.proofs.Common.{◌≡◌, ℕ, zero, suc, ◌+◌, ◌<◌, List, [], ◌∷◌, length, refl, sym, ◌∙◌, ap, subst, arith, Option, Some, None, Bool, true, false, ◌⊎◌, inl, inr}
use Rattle.std.specs.Prelude.{slice_get, if◌then◌else◌}
use Rattle.std.proofs.Math.Nat.{eq-or-lt_of_le}
use Rattle.std.proofs.lemmas.Option.{slice_get_within}
use Rattle.apd_term.specs.Term.{Term, apply}
use Rattle.apd_term.specs.Tuple.{canonical_tuple, IsTupleInstance}
use Rattle.apd_causes.specs.declared.run.RunError.TheVariants.{Size}
use Rattle.apd_term.specs.declared.tuple.Tuple.{Tuple}
use Rattle.apd_term.proofs.Tuples.{IsTupleInstance-trans, IsInstance-head, IsTupleInstance-canonical, canonical_is_instance}
use Rattle.apd_term.proofs.Variants.{IsInstance-trans}
use Rattle.apd_ports.specs.declared.event.Port.TheVariants.{Fail}
use Rattle.apd_ports.specs.declared.point.Point.{Point}
use Rattle.apd_ports.specs.declared.point.Step.{Step}
use Rattle.apd_record.specs.Recorded.{Recorded, box_at, point_at as point_in, goal_left, with_point, noted, passed}
use Rattle.apd_record.specs.declared.rows.BoxRow.{BoxRow}
use Rattle.apd_record.specs.Sound.{IsKept, IsOwned, IsOpen, CameBy, ComeAlike, MayMake}
use Rattle.apd_record.specs.Chain.{IsInnermost, AreChained}
use Rattle.apd_record.specs.Full.{HasCompleteChild, IsFollowed, EntersAll, ExitsAll, AsksAll, FollowsAll}
use Rattle.apd_record.proofs.Lists.{get-last, get-one, longer}
use Rattle.apd_record.proofs.Growing.{Grown, grown_then, grown_point, grown_noted, box_still}
use Rattle.apd_record.proofs.Keeping.{kept_point, kept_noted, points_noted}
use Rattle.apd_record.proofs.Chains.{chained_point, innermost_point, noted-there}
use Rattle.apd_trace.specs.Frames.{goal_of, handed, is_large, point_at, step_from}
use Rattle.apd_trace.specs.Trace.{Next, nothing, emit, point_of, hand, closing}
use Rattle.apd_trace.specs.Renaming.{AreLinked}
use Rattle.apd_trace.specs.declared.frame.Frame.{Frame}
use Rattle.apd_trace.specs.declared.frame.Called.{Called}
use Rattle.apd_trace.specs.declared.item.Item.TheVariants.{Error}
use Rattle.apd_trace.proofs.Applied.{apply_goal, slice_get-apply}
use Rattle.apd_recorded.specs.Told.{IsFullBox}
use Rattle.apd_recorded.proofs.Lifting.{joint_handed, lifted_handed}
use Rattle.apd_recorded.proofs.Logic.{Meets, meets_more, meets_made, meets_passed, meets_error, meets_nothing}
use Rattle.apd_recorded.proofs.State.{Opens, opens_then, opens_point, opens_noted, Waits, InFront, Stack, Counted, IsReady, start_of, HandedFrom, IsHanded, IsSettled, Settled, EntersNone, After, placed-grown, boxed-grown, settled-grown, noted_boxes, point_exit, head_fits}

-- the point of a frame after an exit
abbrev pub new_point : Frame → ℕ → ℕ → Point
new_point f e m = point_at (handed f m) (Some (step_from f.point e))

-- the point that a frame with this tuple was at
abbrev pub point_with : Frame → Tuple → Option Step → Point
point_with f T before = record { owner = f.box_no; clause = f.clause; done = f.done; tuple = T; before = before }

pub open_of : (R : Recorded) (n : ℕ) (F : List Frame) → InFront R n F → IsOpen R n
open_of R zero F h = tt
open_of R (suc n) [] h = absurd (omega (arith, h))
open_of R (suc n) (f ∷ F) h = (h.row, h.there, h.is_open)

handed_linked : (f : Frame) (G : List Frame) (m : ℕ) → AreLinked (f ∷ G) → AreLinked (handed f m ∷ G)
handed_linked f [] m h = tt
handed_linked f (g ∷ G) m h = h

-- in a box that is there
pub handed_from : (R : Recorded) (i : ℕ) (p : Point) (n : ℕ) (b : BoxRow) → box_at R n ≡ Some b → IsHanded R i p n → HandedFrom R i p n
handed_from R i p zero b h k = cc
handed_from R i p (suc n) b h k = k

is_handed : (R : Recorded) (i : ℕ) (p : Point) (n : ℕ) → HandedFrom R i p n → IsHanded R i p n
is_handed R i p zero h = tt
is_handed R i p (suc n) h = h

-- a point comes after the call of its box
pub later : (R : Recorded) (i n : ℕ) (b : BoxRow) → IsOwned R i n → box_at R n ≡ Some b → b.from < i
later R i zero b h k = cc
later R i (suc n) b h k = let same : h.0 ≡ b = get-one (slice_get R.boxes n) h.0 b h.1 k in subst (λ (x : BoxRow). x.from < i) same h.2

-- where a point was called from is below the number of points
pub from_below : (R : Recorded) (n : ℕ) (b : BoxRow) → IsKept R → box_at R n ≡ Some b → b.from < length R.points
from_below R n b kept h = let c = kept.called n b h in slice_get_within R.points b.from c.caller c.there

module _ (P : List Tuple) (k : ℕ) (next : Next) (next_meets : (F : List Frame) (Ts : List Tuple) (n m : ℕ) (R : Recorded) → IsReady R F Ts n m → Meets P k R (next F n m) (After R (start_of F))) where
  module _ (e f : Frame) (G : List Frame) (E T : Tuple) (Us : List Tuple) (n m : ℕ) (R : Recorded) (stack : Stack R (e ∷ f ∷ G) (E ∷ T ∷ Us)) (counted : Counted R n m) (newest : m ≡ suc e.point) (over : goal_of e ≡ None) (top : IsInnermost R f.box_no) where
    may_hand : MayMake R (new_point f e.point m)
    may_hand =
        let c = canonical_is_instance f.tuple in
        let last : slice_get (canonical_tuple f.tuple).body f.done ≡ Some (apply c.0 e.tuple.head) =
        ap (λ (t : Tuple). slice_get t.body f.done) (sym c.1) ∙ slice_get-apply c.0 f.tuple.body f.done ∙ ap (apply_goal c.0) stack.linked.0 in
        record {
          came =
              record {
                left = point_with f T stack.placed.1.0.before;
                exit = point_with e E stack.placed.0.before;
                box = stack.boxed.0.row;
                goal = apply c.0 e.tuple.head;
                left_there = stack.placed.1.0.there;
                exit_there = stack.placed.0.there;
                point_earlier = slice_get_within R.points f.point (point_with f T stack.placed.1.0.before) stack.placed.1.0.there;
                exit_earlier = slice_get_within R.points e.point (point_with e E stack.placed.0.before) stack.placed.0.there;
                is_exit = point_exit e E stack.placed.0.instance over;
                child = stack.boxed.0.there;
                called = stack.boxed.0.from;
                owner = refl;
                clause = refl;
                done = refl;
                instance = IsTupleInstance-trans (canonical_tuple f.tuple) f.tuple T c stack.placed.1.0.instance;
                last = last;
                solved = IsInstance-trans (apply c.0 e.tuple.head) e.tuple.head E.head (c.0, refl) (IsInstance-head e.tuple E stack.placed.0.instance);
              };
          is_new = λ i q at alike. fresh i q q.before at (counted.kept.made i q at).came alike;
          is_open = open_of R f.box_no G stack.boxed.1.0;
        }
      where
        fresh : (i : ℕ) (q : Point) (before : Option Step) → point_in R i ≡ Some q → CameBy R i q before → ComeAlike q (new_point f e.point m) before (Some (step_from f.point e.point)) → ⊥
        fresh i q None at came alike = alike
        fresh i q (Some s) at came alike = absurd (let lt = slice_get_within R.points i q at in omega (arith, lt, came.exit_earlier, alike.1, counted.points, newest))

    ready_hand : IsReady (with_point R (new_point f e.point m)) (handed f m ∷ G) (canonical_tuple f.tuple ∷ Us) n (m + 1)
    ready_hand = (
      record {
        placed = (
          record { before = Some (step_from f.point e.point); there = get-last R.points (new_point f e.point m) m counted.points; instance = IsTupleInstance-canonical f.tuple },
          placed-grown R (with_point R (new_point f e.point m)) (grown_point R (new_point f e.point m)) G Us stack.placed.1.1,
        );
        boxed = boxed-grown R (with_point R (new_point f e.point m)) (grown_point R (new_point f e.point m)) (opens_point R (new_point f e.point m)) (f ∷ G) stack.boxed.1;
        linked = handed_linked f G m stack.linked.1;
        joint = joint_handed e f G E T Us stack.joint m (canonical_tuple f.tuple) stack.linked.0 stack.placed.0.instance stack.placed.1.0.instance (canonical_is_instance f.tuple);
        fit = (head_fits f G R Us (canonical_tuple f.tuple) stack.linked.1 stack.placed.1.1 (canonical_is_instance f.tuple), stack.fit.1.1);
        atoms = stack.atoms.1;
      },
      (
        record { kept = kept_point R (new_point f e.point m) may_hand counted.kept; chained = chained_point R (new_point f e.point m) counted.kept counted.chained; boxes = counted.boxes; points = longer R.points (new_point f e.point m) m counted.points },
        record {
          newest = omega arith;
          as_made = canonical_is_instance f.tuple;
          childless = λ j b h. boxes_below j b h;
          top = innermost_point R (new_point f e.point m) f.box_no top;
        },
      ),
    )
      where
        boxes_below : (j : ℕ) (b : BoxRow) → box_at (with_point R (new_point f e.point m)) j ≡ Some b → b.from < m
        boxes_below zero b h = cc
        boxes_below (suc j) b h = omega (arith, counted.points, from_below R (suc j) b counted.kept h)

    -- the exit was handed on, once its point is made
    exit_handed : HandedFrom (with_point R (new_point f e.point m)) e.point (point_with e E stack.placed.0.before) e.box_no
    exit_handed =
        let S : Recorded = with_point R (new_point f e.point m) in
        let w = box_still R (with_point R (new_point f e.point m)) (grown_point R (new_point f e.point m)) e.box_no stack.boxed.0.row stack.boxed.0.there in
        let from : w.0.from ≡ f.point = w.2.from ∙ stack.boxed.0.from in
        record {
          row = w.0;
          left = point_with f T stack.placed.1.0.before;
          there = w.1;
          left_there = rw from ((grown_point R (new_point f e.point m)).points f.point (point_with f T stack.placed.1.0.before) stack.placed.1.0.there);
          followed = λ t a ground of_left at of_exit.
              record {
                number = m;
                point = new_point f e.point m;
                step = step_from f.point e.point;
                there = get-last R.points (new_point f e.point m) m counted.points;
                before = refl;
                left = sym from;
                exit = refl;
                instance = IsTupleInstance-trans t f.tuple (canonical_tuple f.tuple) (lifted_handed e f G E T Us stack.joint t a stack.fit.1.0 stack.fit.1.1 of_left at of_exit) (IsTupleInstance-canonical f.tuple);
              };
        }

    after_hand : (U : Recorded) (n' m' : ℕ) → After (with_point R (new_point f e.point m)) m U n' m' → After R e.point U n' m'
    after_hand U n' m' h =
        record {
          grown = grown_then R (with_point R (new_point f e.point m)) U (grown_point R (new_point f e.point m)) h.grown;
          opens = opens_then R (with_point R (new_point f e.point m)) U (opens_point R (new_point f e.point m)) h.opens;
          none = λ i p le at first. none_either i p at first (eq-or-lt_of_le le);
          counted = h.counted;
          settled = λ i p le at. settled_either i p at (eq-or-lt_of_le le);
          top = λ o t. h.top o (innermost_point R (new_point f e.point m) o t);
        }
      where
        none_either : (i : ℕ) (p : Point) → point_in U i ≡ Some p → p.before ≡ None → (length R.points ≡ i) ⊎ (length R.points < i) → length R.boxes < p.owner
        none_either i p at first (inl here) =
            let there : point_in U i ≡ Some (new_point f e.point m) = h.grown.points i (new_point f e.point m) (get-last R.points (new_point f e.point m) i here) in
            let same : new_point f e.point m ≡ p = get-one (point_in U i) (new_point f e.point m) p there at in
            let bad : Some (step_from f.point e.point) ≡ None = ap (λ (x : Point). x.before) same ∙ first in
            cc
        none_either i p at first (inr past) = h.none i p (omega (arith, past, longer R.points (new_point f e.point m) (length R.points) refl)) at first

        settled_either : (i : ℕ) (p : Point) → point_in U i ≡ Some p → (e.point ≡ i) ⊎ (e.point < i) → IsSettled U i p (goal_left p)
        settled_either i p at (inl here) =
            let x : point_in U e.point ≡ Some (point_with e E stack.placed.0.before) = h.grown.points e.point (point_with e E stack.placed.0.before) ((grown_point R (new_point f e.point m)).points e.point (point_with e E stack.placed.0.before) stack.placed.0.there) in
            let same : point_with e E stack.placed.0.before ≡ p = get-one (point_in U i) (point_with e E stack.placed.0.before) p (rw (← here) x) at in
            let none : goal_left (point_with e E stack.placed.0.before) ≡ None = point_exit e E stack.placed.0.instance over in
            let s : IsSettled (with_point R (new_point f e.point m)) e.point (point_with e E stack.placed.0.before) None = is_handed (with_point R (new_point f e.point m)) e.point (point_with e E stack.placed.0.before) e.box_no exit_handed in
            let s' : IsSettled U e.point (point_with e E stack.placed.0.before) (goal_left (point_with e E stack.placed.0.before)) = subst (λ o. IsSettled U e.point (point_with e E stack.placed.0.before) o) (sym none) (settled-grown (with_point R (new_point f e.point m)) U h.grown e.point (point_with e E stack.placed.0.before) None s) in
            subst (λ j. IsSettled U j p (goal_left p)) here (subst (λ q. IsSettled U e.point q (goal_left q)) same s')
        settled_either i p at (inr past) = h.settled i p (omega (arith, past, newest)) at

    -- an exit handed on settles the exit and the points that are made then
    pub hand_meets : Meets P k R (hand next (f ∷ G) e.point n m) (After R e.point)
    hand_meets = either (is_large f.tuple)
      where
        either : (b : Bool) → Meets P k R (if b then emit (Error Size f.box_no) (nothing n m) else emit (point_of (handed f m) (Some (step_from f.point e.point))) (next (handed f m ∷ G) n (m + 1))) (After R e.point)
        either true = meets_error P k R Size f.box_no n m (After R e.point)
        either false =
            meets_made P k R (new_point f e.point m) (next (handed f m ∷ G) n (m + 1)) (After R e.point) (may_hand, λ j b first owner there user. cc)
            (meets_more P k (with_point R (new_point f e.point m)) (next (handed f m ∷ G) n (m + 1)) (After (with_point R (new_point f e.point m)) m) (After R e.point) after_hand
            (next_meets (handed f m ∷ G) (canonical_tuple f.tuple ∷ Us) n (m + 1) (with_point R (new_point f e.point m)) ready_hand))

module _ (P : List Tuple) where
  -- where a box closes: it was called from point number `from`, which has a goal left, and all since is settled
  pub record Closing (B R : Recorded) (g : Called) (from n m : ℕ) : Type 0 where
    pub waits : Waits R g.box_no from
    pub counted : Counted R n m
    pub caller : Point
    pub goal : Term
    pub caller_there : point_in R from ≡ Some caller
    pub has_goal : goal_left caller ≡ Some goal
    pub settled : Settled R (from + 1)
    pub enters : waits.row.is_user ≡ true → EntersAll P R g.box_no waits.row.atom
    pub exits : waits.row.is_user ≡ false → ExitsAll R g.box_no waits.row.atom
    pub grown : Grown B R
    pub opens : Opens B R
    pub none : EntersNone (length B.boxes) (length B.points) R
    pub is_new : length B.boxes < g.box_no
    pub chained : AreChained (noted R g.box_no Fail)
    pub top : (o : ℕ) → IsInnermost B o → IsInnermost (noted R g.box_no Fail) o

  module _ (B R : Recorded) (g : Called) (from n m : ℕ) (c : Closing B R g from n m) where
    asks : AsksAll R g.box_no
    asks i p a at owner goal =
        let lt = later R i g.box_no c.waits.row (subst (IsOwned R i) owner (c.counted.kept.made i p at).owned) c.waits.there in
        subst (λ o. IsSettled R i p o) goal (c.settled i p (omega (arith, lt, c.waits.from)) at)

    follows : FollowsAll R g.box_no
    follows i e j p exit row t a at owner there from_i at_e owner_e is_exit ground of_p goal of_exit =
        let lt = later R i g.box_no c.waits.row (subst (IsOwned R i) owner (c.counted.kept.made i p at).owned) c.waits.there in
        let lt_e = later R e j row (subst (IsOwned R e) owner_e (c.counted.kept.made e exit at_e).owned) there in
        let s : IsSettled R e exit None = subst (λ o. IsSettled R e exit o) is_exit (c.settled e exit (omega (arith, lt, lt_e, from_i, c.waits.from)) at_e) in
        let h : HandedFrom R e exit j = handed_from R e exit j row there (subst (IsHanded R e exit) owner_e s) in
        let same : h.row ≡ row = get-one (box_at R j) h.row row h.there there in
        let from : h.row.from ≡ i = ap (λ (b : BoxRow). b.from) same ∙ from_i in
        let left : h.left ≡ p = get-one (point_in R i) h.left p (ap (λ x. point_in R x) (sym from) ∙ h.left_there) at in
        subst (λ x. IsFollowed R x e t) from (h.followed t a ground (subst (λ (q : Point). IsTupleInstance t q.tuple) (sym left) of_p) (subst (λ (q : Point). slice_get t.body q.done ≡ Some a) (sym left) goal) of_exit)

    full : IsFullBox P R g.box_no
    full = (c.waits.row, c.waits.there, record { enters = c.enters; asks = asks; follows = follows; exits = c.exits })

    after_closing : After B from (noted R g.box_no Fail) n m
    after_closing =
        record {
          grown = grown_then B R (noted R g.box_no Fail) c.grown (grown_noted R g.box_no Fail);
          opens = opens_noted B R g.box_no Fail c.is_new c.opens;
          none = λ i p le at first. c.none i p le (rw points_noted at at) first;
          counted = record { kept = kept_noted R g.box_no Fail c.counted.kept; chained = c.chained; boxes = noted_boxes R g.box_no Fail n c.counted.boxes; points = rw points_noted c.counted.points };
          settled = λ i p le at. either i p (rw points_noted at at) (eq-or-lt_of_le le);
          top = c.top;
        }
      where
        either : (i : ℕ) (p : Point) → point_in R i ≡ Some p → (from ≡ i) ⊎ (from < i) → IsSettled (noted R g.box_no Fail) i p (goal_left p)
        either i p at (inl here) =
            let same : c.caller ≡ p = get-one (point_in R i) c.caller p (rw (← here) c.caller_there) at in
            let goal : goal_left p ≡ Some c.goal = ap goal_left (sym same) ∙ c.has_goal in
            let child : HasCompleteChild (noted R g.box_no Fail) i = record { number = g.box_no; row = passed Fail c.waits.row; there = noted-there R g.box_no Fail c.waits.row c.waits.there; from = c.waits.from ∙ here; complete = refl } in
            subst (λ o. IsSettled (noted R g.box_no Fail) i p o) (sym goal) child
        either i p at (inr past) = settled-grown R (noted R g.box_no Fail) (grown_noted R g.box_no Fail) i p (goal_left p) (c.settled i p (omega (arith, past)) at)

    pub closing_meets : (k : ℕ) → Meets P k R (closing g n m) (After B from)
    closing_meets k = meets_passed P k R Fail g (nothing n m) (After B from) (full, c.chained) (meets_nothing P k (noted R g.box_no Fail) n m (After B from) after_closing)

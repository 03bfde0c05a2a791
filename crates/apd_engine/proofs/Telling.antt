-- What is told of an item.
use Rattle.std.proofs.Common.{◌≡◌, ◌≢◌, ℕ, ◌+◌, ◌<◌, Bool, true, false, List, [], ◌∷◌, length, drop, append-nil, refl, ap, sym, ◌∙◌, subst, arith, Option, Some, None}
use Rattle.std.proofs.lemmas.Bool.{not-false, not-true}
use Rattle.std.proofs.lemmas.List.{length-map}
use Rattle.std.specs.Prelude.{◌==◌, if◌then◌else◌, slice_get}
use Rattle.apd_term.specs.Canonical.{canonical}
use Rattle.apd_term.specs.Term.{Term, predicate_of, size as size_of}
use Rattle.apd_term.specs.Tuple.{canonical_tuple}
use Rattle.apd_term.specs.declared.term.Pred.{Pred}
use Rattle.apd_term.proofs.Variants.{canonical-canonical, size-canonical}
use Rattle.apd_term.specs.declared.tuple.Tuple.{Tuple}
use Rattle.apd_ports.specs.declared.event.Event.{Event}
use Rattle.apd_ports.specs.declared.event.Port.{Port}
use Rattle.apd_ports.specs.declared.event.Port.TheVariants.{Call, Exit, Redo, Fail}
use Rattle.apd_ports.specs.declared.point.Step.{Step}
use Rattle.apd_record.specs.Recorded.{Recorded, is_user_atom, noted}
use Rattle.apd_record.proofs.Lists.{get-last}
use Rattle.apd_recorded.specs.Told.{told_port}
use Rattle.apd_trace.specs.Frames.{called, goal_of, left, look_at, look_of, next_goal, point_at}
use Rattle.apd_trace.specs.Trace.{at_port}
use Rattle.apd_trace.specs.declared.frame.Called.{Called}
use Rattle.apd_trace.specs.declared.frame.Frame.{Frame}
use Rattle.apd_trace.specs.declared.frame.Look.{Look}
use Rattle.apd_trace.specs.declared.frame.Look.TheVariants.{Nothing, Goal, Exit as Exits, Answer as Answers}
use Rattle.apd_trace.specs.declared.item.Item.{Item}
use Rattle.apd_trace.specs.declared.item.Item.TheVariants.{Passed, Made}
use Rattle.apd_frames.specs.Kept.{Kept, Calls, ahead_of, exit_in, fits, is_large_of, newest_of, point_in}
use Rattle.apd_frames.specs.declared.ahead.Ahead.TheVariants.{Call as CallsNext, Exit as ExitsNext}
use Rattle.std.specs.Global.{Box}
use Rattle.apd_following.specs.Followed.{IsGoalSized, KeepsInstance}
use Rattle.apd_following.specs.declared.following.KeptFrame.{KeptFrame}
use Rattle.apd_record.specs.declared.ongoing.OpenPoint.{OpenPoint}
use Rattle.apd_engine.specs.Given.{Holding, HoldsWhere, IsCalled, IsPointOf, IsToldWhole, IsWhole, Makes, MayBeWhole, SetsHeld, SetsHeldSome, Tells, TellsCall, TellsKept, TellsPoint, TellsPort, TellsSome, of_point}
use Rattle.apd_engine.specs.declared.given.ToldCall.{ToldCall}
use Rattle.apd_engine.specs.Recording.{IsThere, MayPass}
use Rattle.apd_engine.specs.Search.{Standing, Grows, Ends, GivesAlways, GivesBy, GivesOrEnds, HasFailed, IsCalling, IsLeft, IsOpen, AllWaits, Waits, called_at, in_mode, left_at}
use Rattle.apd_engine.specs.declared.given.Given.{Given}
use Rattle.apd_engine.specs.declared.given.Given.TheVariants.{Whole, Port as PortOf, Point as SomePoint, Kept as KeptPoint, Call as CallOf}
use Rattle.apd_engine.specs.declared.given.Unread.{Unread}
use Rattle.apd_engine.specs.declared.search.Choice.{Choice}
use Rattle.apd_engine.specs.declared.search.Choice.TheVariants.{Over}
use Rattle.apd_engine.specs.declared.search.Mode.TheVariants.{Forward}
use Rattle.apd_engine.proofs.Steps.{IsRestored, box_of, gives_call, gives_exit}

-- what was kept stays
pub grows_same : {old new : List Tuple} → new ≡ old → Grows old new
grows_same {old} {new} same = record { more = []; is = same ∙ sym (append-nil old) }

pub grows_from : {old here new : List Tuple} → here ≡ old → Grows here new → Grows old new
grows_from {old} {here} {new} same grows = subst (λ ts. Grows ts new) same grows

pub tells_tuples : (kept here : List Tuple) (held : Option OpenPoint) (unread : Unread) (given : Given) (B : Item → Type 0) → kept ≡ here → Tells (record { tuples = here; held = held }) unread given B → Tells (record { tuples = kept; held = held }) unread given B
tells_tuples kept here held unread given B same h = subst (λ ts. Tells (record { tuples = ts; held = held }) unread given B) (sym same) h

-- what follows for each item follows for the one that is told
pub tells_weaker : (kept : Holding) (unread : Unread) (given : Given) (A B : Item → Type 0) → ((i : Item) → A i → B i) → Tells kept unread given A → Tells kept unread given B
tells_weaker kept unread (Whole i) A B weaker h = (h.0, weaker i.value h.1)
tells_weaker kept unread (PortOf port b) A B weaker h =
    record {
      event = h.event;
      holds = weaker (Passed h.event) h.holds;
      port_is = h.port_is;
      box_is = h.box_is;
      may = h.may;
      call = h.call;
    }
tells_weaker kept unread SomePoint A B weaker h =
    record {
      point = h.point;
      holds = weaker (Made h.point) h.holds;
      may = h.may;
    }
tells_weaker kept unread KeptPoint A B weaker h =
    record {
      row = h.row;
      point = h.point;
      holds = weaker (Made h.point) h.holds;
      held = h.held;
      at = h.at;
      may = h.may;
    }
tells_weaker kept unread (CallOf call) A B weaker h =
    record {
      event = h.event;
      holds = weaker (Passed h.event) h.holds;
      port_is = h.port_is;
      at = h.at;
      read = h.read;
      may = h.may;
    }

-- what holds of an item is told by it, whole
pub tells_whole : (kept : Holding) (unread : Unread) (given : Given) (i : Item) (B : Item → Type 0) → IsWhole given i → MayBeWhole unread i → B i → Tells kept unread given B
tells_whole kept unread (Whole w) i B is may h = (subst (MayBeWhole unread) (sym is) may, subst B (sym is) h)
tells_whole kept unread (PortOf port b) i B is may h = absurd is
tells_whole kept unread SomePoint i B is may h = absurd is
tells_whole kept unread KeptPoint i B is may h = absurd is
tells_whole kept unread (CallOf call) i B is may h = absurd is

pub whole_told : (kept : Holding) (unread : Unread) (given : Given) (i : Item) (B : Item → Type 0) → IsWhole given i → Tells kept unread given B → MayBeWhole unread i × B i
whole_told kept unread (Whole w) i B is h = (subst (MayBeWhole unread) is h.0, subst B is h.1)
whole_told kept unread (PortOf port b) i B is h = absurd is
whole_told kept unread SomePoint i B is h = absurd is
whole_told kept unread KeptPoint i B is h = absurd is
whole_told kept unread (CallOf call) i B is h = absurd is

-- a port of a goal, told by its box
tells_port : (unread : Unread) (port : Port) (g : Called) (b : ℕ) (B : Item → Type 0) → g.box_no ≡ b → unread.ports ≡ true → (port ≡ Call → unread.points ≡ true) → B (at_port port g) → TellsPort unread port b B
tells_port unread port g b B box_is may call holds =
    record {
      event = record { port = port; box_no = g.box_no; caller = g.caller; depth = g.depth; atom = g.atom };
      holds = holds;
      port_is = refl;
      box_is = box_is;
      may = may;
      call = call;
    }

-- the port of the box that the frames leave
newest_left : (F : List Frame) (b e : ℕ) → newest_of F ≡ Some (b, e) → (g : Called) × (exit_in F ≡ Some (g, e)) × (g.box_no ≡ b)
newest_left [] b e is = cc
newest_left (f ∷ F) b e is =
    let both : (f.box_no, f.point) ≡ (b, e) = cc in
    (left f F, ap (λ (n : ℕ). Some (left f F, n)) (ap (λ (x : ℕ × ℕ). x.1) both), ap (λ (x : ℕ × ℕ). x.0) both)

pub some_newest : (F : List Frame) → 0 < length F → newest_of F ≡ None → ⊥
some_newest [] some none = omega arith
some_newest (f ∷ F) some none = cc

pub tells_left : (kept : Holding) (unread : Unread) (port : Port) (F : List Frame) (b e : ℕ) → unread.ports ≡ true → port ≢ Call → newest_of F ≡ Some (b, e) → Tells kept unread (PortOf port b) (IsLeft F port e)
tells_left kept unread port F b e may later newest =
    let l = newest_left F b e newest in
    tells_port unread port l.0 b (IsLeft F port e) l.2 may (λ call. absurd (later call)) (record { goal = l.0; exit = l.1; item = refl })

-- the innermost frame as a point
pub tells_point : (kept : Holding) (unread : Unread) (F : List Frame) (before : Option Step) → unread.points ≡ true → 0 < length F → fits F ≡ true → Tells kept unread SomePoint (IsPointOf F before)
tells_point kept unread [] before may some fit = absurd (omega (arith, some))
tells_point kept unread (f ∷ F) before may some fit =
    record {
      point = point_at f before;
      holds = record { point = point_at f before; is = refl; points = (not-true (is_large_of (f ∷ F)) fit, refl) };
      may = may;
    }

-- the same, as it is made where its instance was measured
pub makes_measured : (kept : Holding) (unread : Unread) (b : Bool) (F : List Frame) (before : Option Step) → unread.points ≡ true → 0 < length F → b ≡ fits F → Makes kept unread b F before
makes_measured kept unread false F before may some is = not-false (is_large_of F) (sym is)
makes_measured kept unread true F before may some is =
    subst (λ g. Tells kept unread g (IsPointOf F before)) (sym (ap (λ b. if b then SomePoint else KeptPoint) may)) (tells_point kept unread F before may some (sym is))

-- the innermost frame as a point whose instance is kept
pub makes_kept : (unread : Unread) (n : KeptFrame) (F : List Frame) (before : Option Step) (old new : List Tuple) → unread.points ≡ false → KeepsInstance (Some n) F old new
    → Makes (record { tuples = new; held = Some (record { owner = n.owner; clause = n.clause; done = n.done; tuple = n.tuple; before = before }) }) unread true F before
makes_kept unread n F before old new may h =
    let k = h.1 in
    let frame : Frame = k.frame in
    let row : OpenPoint = record { owner = n.owner; clause = n.clause; done = n.done; tuple = n.tuple; before = before } in
    let told : TellsKept (record { tuples = new; held = Some row }) unread (IsPointOf F before) = record {
      row = row;
      point = point_at frame before;
      holds = record {
        point = point_at frame before;
        is = refl;
        points = (h.0, ap (λ G. point_in G before) (sym k.is));
      };
      held = refl;
      at = record {
        tuple = canonical_tuple frame.tuple;
        there = subst (λ ts. slice_get ts n.tuple.number ≡ Some (canonical_tuple frame.tuple)) (sym k.more) (get-last old (canonical_tuple frame.tuple) n.tuple.number (sym k.number));
        goals = k.goals ∙ sym (length-map frame.tuple.body _);
        is = rw (k.owner, k.clause, k.done) refl;
      };
      may = may;
    } in
    subst (λ g. Tells (record { tuples = new; held = Some row }) unread g (IsPointOf F before)) (sym (ap (λ b. if b then SomePoint else KeptPoint) may)) told

-- an instance that makes no point is too large
pub large_without : (kept : Holding) (unread : Unread) (b : Bool) (F : List Frame) (before : Option Step) → Makes kept unread b F before → b ≡ false → is_large_of F ≡ true
large_without kept unread false F before h none = h
large_without kept unread true F before h none = cc

-- one that does is told
pub made_some : (kept : Holding) (unread : Unread) (b : Bool) (given : Given) (F : List Frame) (before : Option Step) → Makes kept unread b F before → b ≡ true → given ≡ of_point unread → Tells kept unread given (IsPointOf F before)
made_some kept unread b given F before h is point =
    subst (λ g. Tells kept unread g (IsPointOf F before)) (sym point) (subst (λ (x : Bool). Makes kept unread x F before) is h)

-- What is held stays, or is the point that was made.

pub held_same : (given : Given) {old new : Option OpenPoint} → new ≡ old → SetsHeld given old new
held_same (Whole i) same = same
held_same (PortOf port b) same = same
held_same SomePoint same = same
held_same KeptPoint same = tt
held_same (CallOf call) same = same

pub held_where : (b unread : Bool) {old new : Option OpenPoint} → new ≡ old → HoldsWhere b unread old new
held_where false unread same = same
held_where true true same = same
held_where true false same = tt

pub held_not : (b unread : Bool) (old new : Option OpenPoint) → HoldsWhere b unread old new → b ≡ false → new ≡ old
held_not false unread old new h none = h
held_not true unread old new h none = cc

pub held_made : (points : Bool) (old new : Option OpenPoint) → points ≡ false → HoldsWhere true points old new
held_made points old new read = subst (λ p. HoldsWhere true p old new) (sym read) tt

held_point_by : (points : Bool) (given : Given) (old new : Option OpenPoint) → HoldsWhere true points old new → given ≡ (if points then SomePoint else KeptPoint) → SetsHeld given old new
held_point_by true given old new h is = subst (λ g. SetsHeld g old new) (sym is) h
held_point_by false given old new h is = subst (λ g. SetsHeld g old new) (sym is) tt

pub held_by_point : (unread : Unread) (b : Bool) (given : Given) (old new : Option OpenPoint) → HoldsWhere b unread.points old new → b ≡ true → given ≡ of_point unread → SetsHeld given old new
held_by_point unread b given old new h is point = held_point_by unread.points given old new (subst (λ x. HoldsWhere x unread.points old new) is h) point

sets_given : (o : Option Given) (old new : Option OpenPoint) → SetsHeldSome o old new → (given : Given) → o ≡ Some given → SetsHeld given old new
sets_given o old new h given is = subst (λ (x : Option Given). SetsHeldSome x old new) is h

whole_same : (given : Given) (r : Item) (old new : Option OpenPoint) → IsWhole given r → SetsHeld given old new → new ≡ old
whole_same (Whole i) r old new is sets = sets
whole_same (PortOf port b) r old new is sets = absurd is
whole_same SomePoint r old new is sets = absurd is
whole_same KeptPoint r old new is sets = absurd is
whole_same (CallOf call) r old new is sets = absurd is

module _ (o : Option Given) (old new : Option OpenPoint) (h : SetsHeldSome o old new) where
  pub same_none : o ≡ None → new ≡ old
  same_none is = subst (λ (x : Option Given). SetsHeldSome x old new) is h

  module _ (given : Given) (is : o ≡ Some given) where
    pub same_whole : (r : Item) → IsWhole given r → new ≡ old
    same_whole r whole = whole_same given r old new whole (sets_given o old new h given is)

    pub same_port : (port : Port) (b : ℕ) → given ≡ PortOf port b → new ≡ old
    same_port port b bare = subst (λ g. SetsHeld g old new) bare (sets_given o old new h given is)

    pub same_called : (call : ToldCall) → given ≡ CallOf call → new ≡ old
    same_called call bare = subst (λ g. SetsHeld g old new) bare (sets_given o old new h given is)

-- what waits behind a built-in goal that has exited
pub record IsOver (n b : ℕ) (cs : List Choice) (saved : List (List Frame)) : Type 0 where
  pub frames : List Frame
  pub older : List (List Frame)
  pub is : saved ≡ frames ∷ older
  pub calling : IsCalling n b frames
  pub waits : AllWaits n cs older

pub over_first : (X R : Kept) → IsRestored X R → (n b : ℕ) (cs : List Choice) → AllWaits n (Over b ∷ cs) X.saved → IsOver n b cs (drop 1 X.saved)
over_first X R h n b cs waits = behind (drop 1 X.saved) (subst (AllWaits n (Over b ∷ cs)) h.current waits)
  where
    behind : (S : List (List Frame)) → AllWaits n (Over b ∷ cs) (R.current ∷ S) → IsOver n b cs S
    behind [] w = elim w [ ]
    behind (F ∷ S) w = record { frames = F; older = S; is = refl; calling = w.1; waits = w.2 }

-- Fail of the goal that the frames call
same_goal : (look : Look) (g h : Called) → look ≡ Goal g → look ≡ Goal h → g ≡ h
same_goal look g h one other = cc

pub tells_failed : (kept : Holding) (unread : Unread) (b : ℕ) (old new : Kept) (g : Called) → unread.ports ≡ true → Calls old.current b g → new.saved ≡ drop 1 old.saved → Tells kept unread (PortOf Fail b) (HasFailed b old new)
tells_failed kept unread b old new g may calls saved =
    tells_port unread Fail g b (HasFailed b old new) (box_of old.current b g calls) may (λ same. cc)
    (record { saved = saved; item = λ h others. ap (at_port Fail) (same_goal (look_of old.current b) g h calls others) })

-- a call and an exit that come next
call_so : (look : Look) → CallsNext ≡ ahead_of look → (g : Called) × (look ≡ Goal g)
call_so Nothing is = cc
call_so (Goal g) is = (g, refl)
call_so (Exits g e) is = cc
call_so (Answers a) is = cc

exit_so : (look : Look) (b e : ℕ) → ExitsNext b e ≡ ahead_of look → (g : Called) × (look ≡ Exits g e) × (g.box_no ≡ b)
exit_so Nothing b e is = cc
exit_so (Goal g) b e is = cc
exit_so (Answers a) b e is = cc
exit_so (Exits g x) b e is =
    let exit : x ≡ e = cc in
    let box : g.box_no ≡ b = cc in
    (g, ap (Exits g) exit, box)

called_gives : (s new : Standing) (g : Called) → Calls s.frames.current (s.boxes + 1) g → IsOpen s.boxes s.frames.current → Waits s → new ≡ called_at s → GivesAlways (in_mode Forward s) new (at_port Call g)
called_gives s new g calls ready waits now =
    λ P. subst (λ (t : Standing). GivesBy P (in_mode Forward s) t (at_port Call g)) (sym now)
    (gives_call P s.frames (called_at s).frames s.stack (called_at s).stack s.boxes s.points (look_of s.frames.current (s.boxes + 1)) g (at_port Call g) refl calls ready waits refl refl refl)

pub tells_call : (kept : Holding) (unread : Unread) (s new : Standing) → unread.ports ≡ true → unread.points ≡ true → ((n : ℕ) → CallsNext ≡ ahead_of (look_of s.frames.current n)) → IsOpen s.boxes s.frames.current → Waits s → new ≡ called_at s → Tells kept unread (PortOf Call new.boxes) (GivesAlways (in_mode Forward s) new)
tells_call kept unread s new may points calls ready waits now =
    let x = call_so (look_of s.frames.current (s.boxes + 1)) (calls (s.boxes + 1)) in
    tells_port unread Call x.0 new.boxes (GivesAlways (in_mode Forward s) new) (box_of s.frames.current (s.boxes + 1) x.0 x.1 ∙ sym (ap (λ (t : Standing). t.boxes) now)) may (λ same. points)
    (called_gives s new x.0 x.1 ready waits now)

pub tells_exit : (kept : Holding) (unread : Unread) (s new : Standing) (b e : ℕ) → unread.ports ≡ true → ((n : ℕ) → ExitsNext b e ≡ ahead_of (look_of s.frames.current n)) → IsOpen s.boxes s.frames.current → Waits s → new ≡ left_at s e → Tells kept unread (PortOf Exit b) (GivesAlways (in_mode Forward s) new)
tells_exit kept unread s new b e may exits ready waits now =
    let x = exit_so (look_of s.frames.current (s.boxes + 1)) b e (exits (s.boxes + 1)) in
    tells_port unread Exit x.0 b (GivesAlways (in_mode Forward s) new) x.2 may (λ same. cc)
    (λ P. subst (λ (t : Standing). GivesBy P (in_mode Forward s) t (at_port Exit x.0)) (sym now)
    (gives_exit P s.frames (left_at s e).frames s.stack (left_at s e).stack s.boxes s.points e (look_of s.frames.current (s.boxes + 1)) x.0 (at_port Exit x.0) refl x.1 ready waits refl refl refl))

-- a Call that is told whole, where points aren't read
pub tells_called : (kept : Holding) (unread : Unread) (given : Given) (s new : Standing) (i : Item) → unread.points ≡ true → IsCalled s.frames.current (s.boxes + 1) i → IsOpen s.boxes s.frames.current → Waits s → new ≡ called_at s → IsWhole given i → Tells kept unread given (GivesAlways (in_mode Forward s) new)
tells_called kept unread given s new i points told ready waits now is =
    tells_whole kept unread given i (GivesAlways (in_mode Forward s) new) is (subst (MayBeWhole unread) (sym told.item) (λ same. points))
    (λ P. subst (λ (j : Item). GivesBy P (in_mode Forward s) new j) (sym told.item) (called_gives s new told.goal told.calls ready waits now P))

-- a Call whose goal the newest point has
goal_called : (o : Option Term) (f : Frame) (F : List Frame) (b : ℕ) (g : Called) → look_at o f F b ≡ Goal g → (a : Term) × (o ≡ Some a) × (canonical a ≡ g.atom)
goal_called None f F b g calls = elim (f.box_no == 0) as (λ t. (if t then Answers (canonical f.tuple.head) else Exits (left f F) f.point) ≡ Goal g → (a : Term) × (None ≡ Some a) × (canonical a ≡ g.atom)) [ true ↦ λ bad. cc | false ↦ λ bad. cc ] calls
goal_called (Some x) f F b g calls = let same : called f x b ≡ g = cc in (x, refl, ap (λ (c : Called). c.atom) same)

next_called : (F : List Frame) (b : ℕ) (g : Called) → Calls F b g → (a : Term) × (next_goal F ≡ Some a) × (canonical a ≡ g.atom)
next_called [] b g calls = cc
next_called (f ∷ F) b g calls = goal_called (goal_of f) f F b g calls

pub tells_call_of : (kept : Holding) (unread : Unread) (s new : Standing) (port : Option (Box Item)) (size : ℕ) (is_user : Bool) (o : Option Pred) → unread.points ≡ false → ((n : ℕ) → CallsNext ≡ ahead_of (look_of s.frames.current n)) → IsOpen s.boxes s.frames.current → Waits s → new ≡ called_at s
    → IsToldWhole unread (IsCalled s.frames.current (s.boxes + 1)) port → ((n : ℕ) (g : Called) → Calls s.frames.current n g → o ≡ predicate_of g.atom) → ((atom : Term) → o ≡ predicate_of atom → is_user ≡ is_user_atom atom)
    → IsGoalSized size s.frames.current
    → Tells kept unread (CallOf (record { size = size; is_user = is_user; port = port })) (GivesAlways (in_mode Forward s) new)
tells_call_of kept unread s new port size is_user o may calls ready waits now read pred user sized =
    let x = call_so (look_of s.frames.current (s.boxes + 1)) (calls (s.boxes + 1)) in
    let g : Called = x.0 in
    let goal = next_called s.frames.current (s.boxes + 1) g x.1 in
    record {
      event = record { port = Call; box_no = g.box_no; caller = g.caller; depth = g.depth; atom = g.atom };
      holds = called_gives s new g x.1 ready waits now;
      port_is = refl;
      at = record {
        form = subst (λ a. canonical a ≡ a) goal.2 (canonical-canonical goal.0);
        is_user = user g.atom (pred (s.boxes + 1) g x.1);
        sized = λ some. sized goal.0 goal.1 some ∙ sym (size-canonical goal.0) ∙ ap size_of goal.2;
      };
      read = read_so port read;
      may = may;
    }
  where
    read_so : (p : Option (Box Item)) → IsToldWhole unread (IsCalled s.frames.current (s.boxes + 1)) p → IsToldWhole unread (λ i. i ≡ Passed (record { port = Call; box_no = (call_so (look_of s.frames.current (s.boxes + 1)) (calls (s.boxes + 1))).0.box_no; caller = (call_so (look_of s.frames.current (s.boxes + 1)) (calls (s.boxes + 1))).0.caller; depth = (call_so (look_of s.frames.current (s.boxes + 1)) (calls (s.boxes + 1))).0.depth; atom = (call_so (look_of s.frames.current (s.boxes + 1)) (calls (s.boxes + 1))).0.atom })) p
    read_so None r = r
    read_so (Some b) r = r.item ∙ ap (at_port Call) (same_goal (look_of s.frames.current (s.boxes + 1)) r.goal (call_so (look_of s.frames.current (s.boxes + 1)) (calls (s.boxes + 1))).0 r.calls (call_so (look_of s.frames.current (s.boxes + 1)) (calls (s.boxes + 1))).1)

-- what was told of the item that was matched
module _ (P : List Tuple) (kept : Holding) (unread : Unread) (s new : Standing) (o : Option Given) (h : TellsSome kept unread o (GivesOrEnds P s new)) where
  pub ends_told : o ≡ None → Ends P s.mode s.frames s.stack s.boxes s.points
  ends_told is = subst (λ (x : Option Given). TellsSome kept unread x (GivesOrEnds P s new)) is h

  gives_told : (given : Given) → o ≡ Some given → Tells kept unread given (GivesBy P s new)
  gives_told given is = subst (λ (x : Option Given). TellsSome kept unread x (GivesOrEnds P s new)) is h

  module _ (given : Given) (is : o ≡ Some given) where
    -- the item r was given whole, which is i
    pub gives_of : (r i : Item) → IsWhole given r → r ≡ i → GivesBy P s new i
    gives_of r i whole e = subst (GivesBy P s new) e (whole_told kept unread given r (GivesBy P s new) whole (gives_told given is)).1

    pub whole_of : (r i : Item) → IsWhole given r → r ≡ i → MayBeWhole unread i
    whole_of r i whole e = subst (MayBeWhole unread) e (whole_told kept unread given r (GivesBy P s new) whole (gives_told given is)).0

    pub gives_port : (port : Port) (b : ℕ) → given ≡ PortOf port b → TellsPort unread port b (GivesBy P s new)
    gives_port port b bare = subst (λ (x : Given). Tells kept unread x (GivesBy P s new)) bare (gives_told given is)

    pub gives_point : given ≡ SomePoint → TellsPoint unread (GivesBy P s new)
    gives_point bare = subst (λ (x : Given). Tells kept unread x (GivesBy P s new)) bare (gives_told given is)

    pub gives_kept : given ≡ KeptPoint → TellsKept kept unread (GivesBy P s new)
    gives_kept bare = subst (λ (x : Given). Tells kept unread x (GivesBy P s new)) bare (gives_told given is)

    pub gives_called : (call : ToldCall) → given ≡ CallOf call → TellsCall unread call (GivesBy P s new)
    gives_called call bare = subst (λ (x : Given). Tells kept unread x (GivesBy P s new)) bare (gives_told given is)

-- a Call is told whole where points are read
pub later_than_call : (unread : Unread) (port : Port) → unread.points ≡ false → (port ≡ Call → unread.points ≡ true) → port ≢ Call
later_than_call unread port read call = λ same. let unread_too : unread.points ≡ true = call same in cc

pub later_whole : (unread : Unread) (e : Event) → unread.points ≡ false → MayBeWhole unread (Passed e) → e.port ≢ Call
later_whole unread e read may = later_than_call unread e.port read may

-- what a port other than Call tells the record, and when it may
pub later_port : (R : Recorded) (e : Event) (port : Port) → port ≢ Call → noted R e.box_no port ≡ told_port R e port
later_port R e Call later = absurd (later refl)
later_port R e Exit later = refl
later_port R e Redo later = refl
later_port R e Fail later = refl

pub later_there : (R : Recorded) (e : Event) (port : Port) → port ≢ Call → MayPass R e port → IsThere R e.box_no
later_there R e Call later may = absurd (later refl)
later_there R e Exit later may = may
later_there R e Redo later may = may
later_there R e Fail later may = may

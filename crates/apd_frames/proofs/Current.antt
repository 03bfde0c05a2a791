-- What the innermost link says of the frames.
use Rattle.std.proofs.lemmas.Bool.{cases_eq}
use Rattle.std.proofs.Common.{◌≡◌, ◌≢◌, inl, inr, ℕ, zero, suc, ◌+◌, ◌<◌, ◌≤◌, List, [], ◌∷◌, length, refl, sym, ◌∙◌, ap, subst, arith, true, false, Option, Some, None}
use Rattle.std.specs.Prelude.{slice_get, MatchOption, ◌==◌, if◌then◌else◌}
use Rattle.apd_term.specs.Term.{Term, variable, integer, compound, apply, variables_all, predicate_of}
use Rattle.apd_term.specs.declared.term.Pred.{Pred}
use Rattle.apd_term.specs.declared.term.NameId.{NameId}
use Rattle.apd_term.proofs.Spelling.{length-apply_all}
use Rattle.apd_term.specs.Canonical.{canonical, by_appearance, place_of}
use Rattle.apd_term.specs.Tuple.{apply_tuple, canonical_tuple}
use Rattle.apd_term.specs.declared.tuple.Tuple.{Tuple}
use Rattle.apd_unify.specs.Cells.{AreCells}
use Rattle.apd_unify.specs.declared.store.Cell.{Cell}
use Rattle.apd_cells.specs.Stored.{Stored}
use Rattle.apd_cells.specs.Store.{term_at}
use Rattle.apd_ports.specs.declared.point.Step.{Step}
use Rattle.apd_trace.specs.Frames.{apply_frames, is_large, called, goal_of, look_at, look_of, next_goal, left, owner_of, entered}
use Rattle.apd_trace.specs.declared.frame.Frame.{Frame}
use Rattle.apd_trace.specs.declared.frame.Called.{Called}
use Rattle.apd_trace.specs.declared.frame.Look.TheVariants.{Nothing, Goal, Exit as Exits, Answer as Answers}
use Rattle.apd_frames.specs.Links.{Instance, Link}
use Rattle.apd_notes.specs.declared.notes.Note.{Note}
use Rattle.apd_frames.specs.Instances.{terms_in, tuple_in, IsInside, CanonicalWithin}
use Rattle.apd_frames.specs.Kept.{Kept, Calls, IsIn, MayCall, Points, Takes, exit_in, is_large_of, newest_of, point_in}
use Rattle.apd_frames.specs.Linked.{numbered, frame_in, frames_at, saved_of, entered_link, ArePlaced, IsFramed, IsGoalAt}
use Rattle.apd_frames.proofs.Linking.{same_number, other_number, frames_some, frames_none, frames_newest, frames_applied, with_tuple}

-- the view of frames
abbrev pub view_of : Stored → List Link → ℕ → List Note → Kept
view_of s links k bs = record { current = frames_at s links k; saved = saved_of s links bs }

-- the innermost link of frames
pub record IsInnermost (s : Stored) (links : List Link) (l : Link) (now : Kept) : Type 0 where
  pub is : now.current ≡ frame_in s l ∷ frames_at s links l.around
  pub inside : IsInside (length s.cells) l.instance
  pub older : l.around ≤ length links

pub innermost_some : (s : Stored) (links : List Link) (k : ℕ) (bs : List Note) (now : Kept) (l : Link) → view_of s links k bs ≡ now → IsFramed s links k bs → numbered links k ≡ Some l → IsInnermost s links l now
innermost_some s links k bs now l view f e =
    let h = frames_some s (length s.cells) links k l f.placed e in
    record { is = ap (λ (x : Kept). x.current) (sym view) ∙ h.frames; inside = h.inside; older = h.older }

pub innermost_none : (s : Stored) (links : List Link) (k : ℕ) (bs : List Note) (now : Kept) → view_of s links k bs ≡ now → numbered links k ≡ None → now.current ≡ []
innermost_none s links k bs now view e = ap (λ (x : Kept). x.current) (sym view) ∙ frames_none s links k e

pub get_terms : (s : Stored) (cs : List Cell) (i : ℕ) (c : Cell) → slice_get cs i ≡ Some c → slice_get (terms_in s cs) i ≡ Some (term_at s c.0)
get_terms s [] i c e = cc
get_terms s (d ∷ cs) zero c e = let is : d ≡ c = cc in ap (λ (x : Cell). Some (term_at s x.0)) is
get_terms s (d ∷ cs) (suc i) c e = get_terms s cs i c e

pub get_none : (s : Stored) (cs : List Cell) (i : ℕ) → length cs ≤ i → slice_get (terms_in s cs) i ≡ None
get_none s [] i h = refl
get_none s (d ∷ cs) zero h = absurd (omega arith)
get_none s (d ∷ cs) (suc i) h = get_none s cs i (omega arith)

pub get_inside : (n : ℕ) (cs : List Cell) (i : ℕ) (c : Cell) → AreCells n cs → slice_get cs i ≡ Some c → c.0 < n
get_inside n [] i c h e = cc
get_inside n (d ∷ cs) zero c h e = let is : d ≡ c = cc in subst (λ (x : Cell). x.0 < n) is h.0
get_inside n (d ∷ cs) (suc i) c h e = get_inside n cs i c h.1 e

module _ (s : Stored) (links : List Link) (l : Link) where
  pub look_goal : (n : ℕ) (c : Cell) (atom : Term) → slice_get l.instance.goals l.done ≡ Some c → atom ≡ canonical (term_at s c.0)
      → Goal (record { box_no = n; caller = l.box_no; depth = l.depth + 1; atom = atom }) ≡ look_of (frame_in s l ∷ frames_at s links l.around) n
  look_goal n c atom get e =
      ap (λ t. Goal (record { box_no = n; caller = l.box_no; depth = l.depth + 1; atom = t })) e
      ∙ ap (λ o. look_at o (frame_in s l) (frames_at s links l.around) n) (sym (get_terms s l.instance.goals l.done c get))

  done_look : (n : ℕ) → length l.instance.goals ≤ l.done → look_at None (frame_in s l) (frames_at s links l.around) n ≡ look_of (frame_in s l ∷ frames_at s links l.around) n
  done_look n e = ap (λ o. look_at o (frame_in s l) (frames_at s links l.around) n) (sym (get_none s l.instance.goals l.done e))

  pub look_answer : (n : ℕ) (g : Called) → length l.instance.goals ≤ l.done → l.box_no ≡ 0 → g ≡ left (frame_in s l) (frames_at s links l.around) → Answers g.atom ≡ look_of (frame_in s l ∷ frames_at s links l.around) n
  look_answer n g e z is =
      ap (λ (x : Called). Answers x.atom) is
      ∙ sym (same_number l.box_no 0 (Answers (canonical (term_at s l.instance.head.0))) (Exits (left (frame_in s l) (frames_at s links l.around)) l.point) z)
      ∙ done_look n e

  pub look_exit : (n : ℕ) (g : Called) → length l.instance.goals ≤ l.done → l.box_no ≢ 0 → g ≡ left (frame_in s l) (frames_at s links l.around) → Exits g l.point ≡ look_of (frame_in s l ∷ frames_at s links l.around) n
  look_exit n g e z is =
      ap (λ x. Exits x l.point) is
      ∙ sym (other_number l.box_no 0 (Answers (canonical (term_at s l.instance.head.0))) (Exits (left (frame_in s l) (frames_at s links l.around)) l.point) z)
      ∙ done_look n e

module _ (s : Stored) (links : List Link) (l : Link) (now : Kept) (h : IsInnermost s links l now) where
  pub may_call : MayCall now.current → l.depth + 1 < 4294967296
  may_call m = subst MayCall h.is m

  pub takes_on : Takes now.current → l.done < 64
  takes_on m = subst Takes h.is m

  pub exits_so : (g : Called) → g ≡ left (frame_in s l) (frames_at s links l.around) → Some (g, l.point) ≡ exit_in now.current
  exits_so g is = ap (λ x. Some (x, l.point)) is ∙ ap exit_in (sym h.is)

  pub newest_so : Some (l.box_no, l.point) ≡ newest_of now.current
  newest_so = ap newest_of (sym h.is)

  -- the innermost link as a point, or as too large
  pub too_large : (o : Option Tuple) (before : Option Step) → CanonicalWithin (tuple_in s l.instance) o → o ≡ None → Points None now.current before
  too_large o before c e = ap is_large_of h.is ∙ subst (CanonicalWithin (tuple_in s l.instance)) e c

  pub point_so : (o : Option Tuple) (t : Tuple) (before : Option Step) → CanonicalWithin (tuple_in s l.instance) o → o ≡ Some t
      → Points (Some (record { owner = l.box_no; clause = l.clause; done = l.done; tuple = t; before = before })) now.current before
  point_so o t before c e =
      let w : (is_large (tuple_in s l.instance) ≡ false) × (t ≡ canonical_tuple (tuple_in s l.instance)) = subst (CanonicalWithin (tuple_in s l.instance)) e c in (
        ap is_large_of h.is ∙ w.0,
        ap (λ (x : Tuple). Some (record { owner = l.box_no; clause = l.clause; done = l.done; tuple = x; before = before })) w.1
            ∙ ap (λ F. point_in F before) (sym h.is),
      )

-- the first of the frames from a link on
first_frame : (s : Stored) (links : List Link) (k : ℕ) (l : Link) → numbered links k ≡ Some l → (rest : List Frame) × (frames_at s links k ≡ frame_in s l ∷ rest)
first_frame s [] k l e = cc
first_frame s (x ∷ older) k l e = elim (cases_eq k (length older + 1)) [
  | inl q ↦
      let f : Some x ≡ Some l = sym (same_number k (length older + 1) (Some x) (numbered older k) q) ∙ e in
      let is : x ≡ l = cc in (
        frames_at s older x.around,
        same_number k (length older + 1) (frame_in s x ∷ frames_at s older x.around) (frames_at s older k) q ∙ ap (λ y. frame_in s y ∷ frames_at s older x.around) is,
      )
  | inr d ↦
      let r = first_frame s older k l (sym (other_number k (length older + 1) (Some x) (numbered older k) d) ∙ e) in (
        r.0,
        other_number k (length older + 1) (frame_in s x ∷ frames_at s older x.around) (frames_at s older k) d ∙ r.1,
      )
]

link_inside : (n : ℕ) (links : List Link) (k : ℕ) (l : Link) → ArePlaced n links → numbered links k ≡ Some l → IsInside n l.instance
link_inside n links k l p e = (frames_some (record { cells = []; variables = 0; trail = [] }) n links k l p e).inside

-- the next goal of a link
goal_some : (links : List Link) (k : ℕ) (l : Link) (c : Cell) → numbered links k ≡ Some l → slice_get l.instance.goals l.done ≡ Some c → IsGoalAt links k (Some c)
goal_some links k l c e h = (
  λ n p. get_inside n l.instance.goals l.done c (link_inside n links k l p e).goals h,
  λ s. (let r = first_frame s links k l e in ap next_goal r.1 ∙ get_terms s l.instance.goals l.done c h),
)

goal_none : (links : List Link) (k : ℕ) (l : Link) → numbered links k ≡ Some l → length l.instance.goals ≤ l.done → IsGoalAt links k None
goal_none links k l e h = λ s. (let r = first_frame s links k l e in ap next_goal r.1 ∙ get_none s l.instance.goals l.done h)

pub goal_by : (links : List Link) (k : ℕ) (l : Link) (o : Option Cell) → numbered links k ≡ Some l → MatchOption o (length l.instance.goals ≤ l.done) (λ c. slice_get l.instance.goals l.done ≡ Some c) → IsGoalAt links k o
goal_by links k l None e h = goal_none links k l e h
goal_by links k l (Some c) e h = goal_some links k l c e h

pub goal_nowhere : (links : List Link) (k : ℕ) → numbered links k ≡ None → IsGoalAt links k None
goal_nowhere links k e = λ s. ap next_goal (frames_none s links k e)

pub owner_some : (links : List Link) (k : ℕ) (l : Link) → numbered links k ≡ Some l → (s : Stored) → l.box_no ≡ owner_of (frames_at s links k)
owner_some links k l e s = let r = first_frame s links k l e in ap owner_of (sym r.1)

pub owner_none : (links : List Link) (k : ℕ) → numbered links k ≡ None → (s : Stored) → 0 ≡ owner_of (frames_at s links k)
owner_none links k e s = ap owner_of (sym (frames_none s links k e))

-- a called goal is in its box, one deeper than its frame
called_at : (o : Option Term) (f : Frame) (F : List Frame) (n : ℕ) (g : Called) → look_at o f F n ≡ Goal g → IsIn n (f.depth + 1) g
called_at (Some a) f F n g e = let same : called f a n ≡ g = cc in subst (IsIn n (f.depth + 1)) same (record { box = refl; deep = refl })
called_at None f F n g e = elim (f.box_no == 0) as (λ b. (if b then Answers (canonical f.tuple.head) else Exits (left f F) f.point) ≡ Goal g → IsIn n (f.depth + 1) g) [ true ↦ λ bad. cc | false ↦ λ bad. cc ] e

pub calls_some : (links : List Link) (k : ℕ) (l : Link) → numbered links k ≡ Some l → (s : Stored) (n : ℕ) (g : Called) → Calls (frames_at s links k) n g → IsIn n (l.depth + 1) g
calls_some links k l e s n g h =
    let r = first_frame s links k l e in
    called_at (goal_of (frame_in s l)) (frame_in s l) r.0 n g (subst (λ F. look_of F n ≡ Goal g) r.1 h)

calls_nowhere : (F : List Frame) (n : ℕ) (g : Called) → F ≡ [] → Calls F n g → ⊥
calls_nowhere F n g e h = let bad : Nothing ≡ Goal g = subst (λ (G : List Frame). look_of G n ≡ Goal g) e h in cc

pub calls_none : (links : List Link) (k : ℕ) → numbered links k ≡ None → (s : Stored) (n : ℕ) (g : Called) → Calls (frames_at s links k) n g → IsIn n 0 g
calls_none links k e s n g h = absurd (calls_nowhere (frames_at s links k) n g (frames_none s links k e) h)

pub may_call_so : (links : List Link) (k : ℕ) (l : Link) → numbered links k ≡ Some l → (s : Stored) → MayCall (frames_at s links k) → l.depth + 1 < 4294967296
may_call_so links k l e s h = subst MayCall (first_frame s links k l e).1 h

-- how deep a frame is doesn't depend on the store
pub may_call_any : (links : List Link) (k : ℕ) (s t : Stored) → MayCall (frames_at s links k) → MayCall (frames_at t links k)
may_call_any links k s t h = by (numbered links k) refl
  where
    by : (o : Option Link) → numbered links k ≡ o → MayCall (frames_at t links k)
    by None e = subst MayCall (sym (frames_none t links k e)) tt
    by (Some l) e = subst MayCall (sym (first_frame t links k l e).1) (may_call_so links k l e s h)

abbrev pred_of : NameId → ℕ → Option Pred
pred_of f n = Some (record { name = f; arity = n })

-- the predicate of a goal is that of its atom as it is shown
predicate_shown : (a : Term) → predicate_of a ≡ predicate_of (canonical a)
predicate_shown (variable v) = refl
predicate_shown (integer i) = refl
predicate_shown (compound f ts) = ap (pred_of f) (sym (length-apply_all (λ v. variable (place_of (by_appearance (variables_all ts)) v)) ts))

predicate_by : (o : Option Term) (f : Frame) (F : List Frame) (n : ℕ) (g : Called) (a : Term) → o ≡ Some a → look_at o f F n ≡ Goal g → predicate_of a ≡ predicate_of g.atom
predicate_by None f F n g a e h = cc
predicate_by (Some b) f F n g a e h =
    let same : called f b n ≡ g = cc in
    let is : b ≡ a = cc in
    subst (λ t. predicate_of t ≡ predicate_of g.atom) is (predicate_shown b ∙ ap (λ (c : Called). predicate_of c.atom) same)

predicate_in : (F : List Frame) (n : ℕ) (g : Called) (a : Term) → next_goal F ≡ Some a → look_of F n ≡ Goal g → predicate_of a ≡ predicate_of g.atom
predicate_in [] n g a e h = cc
predicate_in (f ∷ F) n g a e h = predicate_by (goal_of f) f F n g a e h

-- the predicate of the next goal
module _ (s : Stored) (links : List Link) (k : ℕ) (bs : List Note) (now : Kept) (view : view_of s links k bs ≡ now) where
  pub predicate_some : (c : Cell) (o : Option Pred) → IsGoalAt links k (Some c) → o ≡ predicate_of (term_at s c.0) → (n : ℕ) (g : Called) → Calls now.current n g → o ≡ predicate_of g.atom
  predicate_some c o at e n g h =
      e ∙ predicate_in (frames_at s links k) n g (term_at s c.0) (at.1 s) (subst (λ (x : Kept). Calls x.current n g) (sym view) h)

-- a link in front, in a store where a substitution was applied to the older frames
pub front_applied : (f : ℕ → Term) (old new : Stored) (links : List Link) (g : Called) (c m k : ℕ) (i : Instance) (t : Tuple)
    → ((d : ℕ) → d < length old.cells → term_at new d ≡ apply f (term_at old d)) → ArePlaced (length old.cells) links → tuple_in new i ≡ apply_tuple f t
    → frames_at new (entered_link g c i m k ∷ links) (length links + 1) ≡ apply_frames f (entered g t c m ∷ frames_at old links k)
front_applied f old new links g c m k i t made p e =
    let l = entered_link g c i m k in
    frames_newest new l links
    ∙ ap (λ x. x ∷ frames_at new links k) (ap (with_tuple l) e)
    ∙ ap (λ F. with_tuple l (apply_tuple f t) ∷ F) (frames_applied f old new (length old.cells) made links k p)

-- What the calls that change frames make of them.
use Rattle.std.proofs.Common.{◌≡◌, ◌≢◌, ℕ, ◌+◌, ◌<◌, ◌≤◌, List, [], ◌∷◌, length, drop, map, refl, sym, ◌∙◌, ap, subst, arith, false, Option, Some, None}
use Rattle.std.specs.Prelude.{MatchOption, ◌==◌, if◌then◌else◌}
use Rattle.apd_term.specs.Term.{Term, variable, apply}
use Rattle.apd_term.specs.Substitution.{term_for}
use Rattle.apd_term.specs.Canonical.{shifted}
use Rattle.apd_term.specs.declared.tuple.Tuple.{Tuple}
use Rattle.apd_unify.specs.Unifier.{HasNoUnifier}
use Rattle.apd_unify.specs.declared.store.Cell.{Cell}
use Rattle.apd_cells.specs.Stored.{Stored}
use Rattle.apd_cells.specs.declared.front.Front.{Front}
use Rattle.apd_cells.specs.Store.{term_at, meaning, at_mark, loaded, Keeps, IsSound}
use Rattle.apd_cells.specs.Undone.{undone, HasMoreCells}
use Rattle.apd_cells.proofs.Longer.{sound_at_mark}
use Rattle.apd_cells.proofs.Undone.{undone_more}
use Rattle.apd_cells.specs.Numbered.{IsNumbered}
use Rattle.apd_cells.specs.First.{AreApart}
use Rattle.apd_cells.proofs.Keeping.{meaning-loaded}
use Rattle.apd_trace.specs.Frames.{apply_frames, entering, entered, shifted_tuple, outer, handed_all, query_frame}
use Rattle.apd_trace.specs.BuiltIn.{built, solution}
use Rattle.apd_trace.specs.Renaming.{AreAlike}
use Rattle.apd_trace.specs.declared.frame.Frame.{Frame}
use Rattle.apd_trace.specs.declared.frame.Called.{Called}
use Rattle.apd_frames.specs.declared.builtin.Solved.{Solved}
use Rattle.apd_frames.specs.declared.builtin.Solved.TheVariants.{Entered}
use Rattle.apd_frames.specs.Links.{Instance, Link}
use Rattle.apd_notes.specs.declared.notes.Branch.{Branch}
use Rattle.apd_notes.specs.declared.notes.Note.{Note}
use Rattle.apd_notes.specs.declared.notes.Note.TheVariants.{Saved, Handed}
use Rattle.apd_notes.specs.Notes.{forgotten}
use Rattle.apd_frames.specs.Instances.{terms_in, tuple_in, raised_in, IsInside, IsVariant, HasGrown, HasLaid, IsInstantiated}
use Rattle.apd_frames.specs.Kept.{Kept, HasEntered, Enters}
use Rattle.apd_frames.specs.Solves.{solution_as, Settles}
use Rattle.apd_frames.specs.Linked.{changed, frame_in, frames_at, links_then, notes_then, oldest, saved_of, entered_link, handed_link, taken_link, ArePlaced, AreMarked, Hands, IsFramed, IsGoalAt}
use Rattle.apd_frames.proofs.Changing.{length-changed, placed_changed, handed_frames, taken_handed}
use Rattle.apd_frames.proofs.Linking.{frames_newest, frames_below, tuple_of, with_tuple}
use Rattle.apd_ports.specs.declared.point.TheConstants.{BUILTIN}
use Rattle.apd_frames.proofs.Branching.{framed_kept, framed_link, framed_there, framed_then, saved-branch, framed_branch, saved-link, saved-kept, saved-forgotten, saved-then, saved-without, marked-without}
use Rattle.apd_frames.proofs.Longer.{framed_more, frames_more, saved_more}
use Rattle.apd_frames.proofs.Instancing.{loaded_free, terms_same}
use Rattle.apd_frames.proofs.Current.{view_of, IsInnermost, front_applied}
use Rattle.apd_frames.proofs.Entering.{enters_apart, enters_none, enters_some}
use Rattle.apd_frames.proofs.Solving.{solves_entered, solves_other}

-- the frames of a view
abbrev pub kept_of : List Frame → List (List Frame) → Kept
kept_of F S = record { current = F; saved = S }

pub kept_so : (F G : List Frame) (S T : List (List Frame)) → F ≡ G → S ≡ T → kept_of F S ≡ kept_of G T
kept_so F G S T e f = ap (λ x. kept_of x S) e ∙ ap (kept_of G) f

-- the store did more
pub view_kept : (s s' : Stored) (links : List Link) (k : ℕ) (bs : List Note) → s' ≡ s → view_of s' links k bs ≡ view_of s links k bs
view_kept s s' links k bs e = ap (λ (x : Stored). view_of x links k bs) e

module _ (s : Stored) (links : List Link) (k : ℕ) (bs : List Note) (now : Kept) (view : view_of s links k bs ≡ now) (f : IsFramed s links k bs) (g : Called) (r : Tuple) (c m : ℕ) where
  -- no goal is next, or its first argument differs from the clause's, or it doesn't unify with the clause's head

  pub enters_no : (goal : Cell) → IsGoalAt links k (Some goal) → AreApart (term_at s goal.0) r.head → Enters (entering now.current g r c m) false now now
  enters_no goal h a =
      (ap (λ (x : Kept). entering x.current g r c m) (sym view) ∙ enters_apart (frames_at s links k) g r c m (term_at s goal.0) (h.1 s) a, refl)

  pub enters_back : (goal : Cell) (q : Tuple) (s' : Stored) → IsGoalAt links k (Some goal) → IsNumbered s → IsVariant r q → HasNoUnifier (term_at s goal.0) (shifted_tuple s.variables q).head
      → s' ≡ s → Enters (entering now.current g r c m) false now (view_of s' links k bs)
  enters_back goal q s' h numbers e none same = (
    ap (λ (x : Kept). entering x.current g r c m) (sym view)
        ∙ enters_none (frames_at s links k) g r c m (term_at s goal.0) (h.1 s) s.variables (frames_below s numbers links k f.placed) q e none,
    view_kept s s' links k bs same ∙ view,
  )

  module _ (s' : Stored) (kept : Keeps s s') (more : length s.cells ≤ length s'.cells) where
    framed_so : IsFramed s' links k bs
    framed_so = framed_kept s s' links k bs kept more f

    pub entered_framed : (l : Link) (i : Instance) (links' : List Link) (n : ℕ) → IsInside (length s'.cells) i → l ≡ entered_link g c i m k → links' ≡ l ∷ links → n ≡ length links + 1 → IsFramed s' links' n bs
    entered_framed l i links' n inside is le ne = rw (le, is) (framed_link s' (entered_link g c i m k) links k n bs framed_so inside f.within (omega arith))

    has_entered : (goal : Cell) (i : Instance) (q : Tuple) → IsGoalAt links k (Some goal) → IsNumbered s → IsVariant r q → IsInstantiated i s s' goal.0 q
        → HasEntered (entering (frames_at s links k) g r c m) (view_of s links k bs) (view_of s' (entered_link g c i m k ∷ links) (length links + 1) bs)
    has_entered goal i q h numbers v inst =
        let l = entered_link g c i m k in
        let t = shifted_tuple s.variables q in
        let e : frames_at s' (l ∷ links) (length links + 1) ≡ apply_frames (term_for inst.pairs) (entered g t c m ∷ frames_at s links k) =
        front_applied (term_for inst.pairs) s s' links g c m k i t inst.made f.placed inst.tuple in
        record {
          renamed = enters_some (frames_at s links k) g r c m (term_at s goal.0) (h.1 s) s.variables (frames_below s numbers links k f.placed) q inst.pairs (frames_at s' (l ∷ links) (length links + 1)) v inst.unifier e;
          saved = saved-link s' l links bs framed_so.marked ∙ saved-kept s s' links bs kept f.marked;
        }

    pub enters_so : (goal : Cell) (i : Instance) (q : Tuple) (l : Link) (links' : List Link) (n : ℕ) → IsGoalAt links k (Some goal) → IsNumbered s → IsVariant r q
        → IsInstantiated i s s' goal.0 q → l ≡ entered_link g c i m k → links' ≡ l ∷ links → n ≡ length links + 1
        → HasEntered (entering now.current g r c m) now (view_of s' links' n bs)
    enters_so goal i q l links' n h numbers v inst is le ne =
        let k' : HasEntered (entering (frames_at s links k) g r c m) (view_of s links k bs) (view_of s' (entered_link g c i m k ∷ links) (length links + 1) bs) =
        has_entered goal i q h numbers v inst in
        rw (le, ne, is) (subst (λ (x : Kept). HasEntered (entering x.current g r c m) x (view_of s' (entered_link g c i m k ∷ links) (length links + 1) bs)) view k')

-- a built-in goal
module _ (s : Stored) (links : List Link) (k : ℕ) (bs : List Note) (now : Kept) (view : view_of s links k bs ≡ now) (f : IsFramed s links k bs) (g : Called) (m : ℕ) where
  module _ (goal : Cell) (h : IsGoalAt links k (Some goal)) (s' : Stored) where
    pub solves_without : (r : Solved) (G : List Frame) → r ≢ Entered → Settles r s s' (term_at s goal.0) → AreAlike (solution now.current g m) (solution_as r G)
    solves_without r G n a = subst (λ (x : Kept). AreAlike (solution x.current g m) (solution_as r G)) view (solves_other (frames_at s links k) g m (term_at s goal.0) (h.1 s) r s s' G n a)

    pub solves_with : (i : Instance) (links' : List Link) (n : ℕ) → i ≡ record { head = goal; goals = [] } → links' ≡ entered_link g BUILTIN i m k ∷ links → n ≡ length links + 1
        → Settles Entered s s' (term_at s goal.0) → AreAlike (solution now.current g m) (solution_as Entered (frames_at s' links' n))
    solves_with i links' n ie le ne a =
        let t : Tuple = record { head = term_at s goal.0; body = [] } in
        let there : (u : ℕ → Term) → ((d : ℕ) → d < length s.cells → term_at s' d ≡ apply u (term_at s d)) → frames_at s' links' n ≡ apply_frames u (built g (term_at s goal.0) m ∷ frames_at s links k) =
        λ u made.
        rw (le, ne) (front_applied u s s' links g BUILTIN m k i t made f.placed
        (ap (tuple_in s') ie ∙ ap (λ x. tuple_of x []) (made goal.0 (h.0 (length s.cells) f.placed)))) in
        subst (λ (x : Kept). AreAlike (solution x.current g m) (solution_as Entered (frames_at s' links' n))) view
        (solves_entered (frames_at s links k) g m (term_at s goal.0) (h.1 s) s s' (frames_at s' links' n) there a)

  -- one more link, in a store that did more
  pub pushed_framed : (s' : Stored) (l : Link) (n : ℕ) → Keeps s s' → length s.cells ≤ length s'.cells → IsInside (length s'.cells) l.instance → l.around ≤ length links → n ≡ length links + 1 → IsFramed s' (l ∷ links) n bs
  pushed_framed s' l n kept more i a e = framed_link s' l links k n bs (framed_kept s s' links k bs kept more f) i a (omega arith)

  pub pushed_saved : (s' : Stored) (l : Link) → Keeps s s' → length s.cells ≤ length s'.cells → saved_of s' (l ∷ links) bs ≡ now.saved
  pushed_saved s' l kept more =
      saved-link s' l links bs (framed_kept s s' links k bs kept more f).marked ∙ saved-kept s s' links bs kept f.marked ∙ ap (λ (x : Kept). x.saved) view

  pub solved_framed : (goal : Cell) → IsGoalAt links k (Some goal) → (s' : Stored) (l : Link) (gs : List Cell) (links' : List Link) (n : ℕ) → Keeps s s' → length s.cells ≤ length s'.cells → gs ≡ []
      → l ≡ entered_link g BUILTIN (record { head = goal; goals = gs }) m k → links' ≡ l ∷ links → n ≡ length links + 1 → IsFramed s' links' n bs
  solved_framed goal h s' l gs links' n kept more none is le ne =
      let inside : goal.0 < length s.cells = h.0 (length s.cells) f.placed in
      rw (le, is, none) (pushed_framed s' (entered_link g BUILTIN (record { head = goal; goals = [] }) m k) n kept more (record { head = omega arith; goals = tt }) f.within ne)

-- the innermost link is handed an exit
module _ (s : Stored) (links : List Link) (k : ℕ) (ns : List Note) (m p : ℕ) (links' : List Link) (h : Hands links links' k m p) where
  pub links_again : changed (taken_link p) k links' ≡ links
  links_again = ap (changed (taken_link p) k) h.more ∙ taken_handed k m p h.link links h.is (sym h.before)

  module _ (ns' : List Note) (ne : ns' ≡ Handed k p ∷ ns) where
    pub takes_over : (now : Kept) → view_of s links k ns ≡ now → view_of s links' k ns' ≡ kept_of (handed_all now.current m) now.saved
    takes_over now view =
        kept_so (frames_at s links' k) (handed_all now.current m) (saved_of s links' ns') now.saved
        (ap (λ ls. frames_at s ls k) h.more ∙ handed_frames s m k links ∙ ap (λ (x : Kept). handed_all x.current m) view)
        (ap (saved_of s links') ne ∙ ap (λ ls. saved_of s ls ns) links_again ∙ ap (λ (x : Kept). x.saved) view)

    pub takes_framed : IsFramed s links k ns → IsFramed s links' k ns'
    takes_framed f =
        let n : length links' ≡ length links = ap length h.more ∙ length-changed (handed_link m) k links in
        record {
          placed = subst (ArePlaced (length s.cells)) (sym h.more) (placed_changed (length s.cells) (λ (x : Link). x.done + 1) m k links f.placed);
          within = omega (arith, n, f.within);
          marked = subst (AreMarked s links') (sym ne) (omega (arith, n, f.within), subst (λ ls. AreMarked s ls ns) (sym links_again) f.marked);
        }

-- or there was no memory for that
pub takes_back : (s : Stored) (links : List Link) (k : ℕ) (ns ns' : List Note) (m p : ℕ) (links' links'' : List Link) → Hands links links' k m p → links'' ≡ changed (taken_link p) k links' → ns' ≡ ns
    → IsFramed s links k ns → IsFramed s links'' k ns'
takes_back s links k ns ns' m p links' links'' h le ne f =
    let e : links'' ≡ links = le ∙ links_again s links k ns m p links' h in rw (e, ne) f

pub takes_nothing : (now : Kept) (m : ℕ) → now.current ≡ [] → now ≡ kept_of (handed_all now.current m) now.saved
takes_nothing now m e = kept_so now.current (handed_all now.current m) now.saved now.saved (e ∙ ap (λ F. handed_all F m) (sym e)) refl

pub leaves : (s : Stored) (links : List Link) (k : ℕ) (bs : List Note) (now : Kept) (l : Link) → view_of s links k bs ≡ now → IsInnermost s links l now → view_of s links l.around bs ≡ kept_of (outer now.current) now.saved
leaves s links k bs now l view h = kept_so (frames_at s links l.around) (outer now.current) (saved_of s links bs) now.saved (ap outer (sym h.is)) (ap (λ (x : Kept). x.saved) view)

pub leaves_nothing : (now : Kept) → now.current ≡ [] → now ≡ kept_of (outer now.current) now.saved
leaves_nothing now e = kept_so now.current (outer now.current) now.saved now.saved (e ∙ ap outer (sym e)) refl

-- frames are saved
module _ (s : Stored) (links : List Link) (k : ℕ) (ns ns' : List Note) (b : Branch) (f : IsFramed s links k ns) (mark : b.mark.0 ≡ length s.trail) (all : b.links ≡ length links) (is : b.innermost ≡ k)
    (e : ns' ≡ Saved b ∷ ns) where
  pub saves : (now : Kept) → view_of s links k ns ≡ now → view_of s links k ns' ≡ kept_of now.current (now.current ∷ now.saved)
  saves now view =
      rw e (kept_so (frames_at s links k) now.current (saved_of s links (Saved b ∷ ns)) (now.current ∷ now.saved)
      (ap (λ (x : Kept). x.current) view)
      (saved-branch s links k ns b f mark all is ∙ ap (λ (x : Kept). x.current ∷ x.saved) view))

  pub saves_framed : IsFramed s links k ns'
  saves_framed = rw e (framed_branch s links k ns b f mark all is)

-- back at the newest branch, which stays
module _ (kept : Front) (s s' : Stored) (links links' : List Link) (k : ℕ) (ns rest : List Note) (b : Branch) (f : IsFramed s links k ns) (e : ns ≡ Saved b ∷ rest) (sound : IsSound s)
    (se : s' ≡ undone kept b.mark.0 s) (le : links' ≡ oldest b.links links) where
  framed_first : IsFramed s links k (Saved b ∷ rest)
  framed_first = subst (IsFramed s links k) e f

  framed_here : IsFramed (at_mark b.mark.0 s) (oldest b.links links) b.innermost (Saved b ∷ rest)
  framed_here = framed_there s b framed_first.marked.0 links k rest framed_first.marked.1 framed_first

  more_here : HasMoreCells (at_mark b.mark.0 s) (undone kept b.mark.0 s)
  more_here = undone_more kept b.mark.0 s sound

  sound_here : IsSound (at_mark b.mark.0 s)
  sound_here = sound_at_mark b.mark.0 s sound

  pub restores_framed : IsFramed s' links' b.innermost ns
  restores_framed = rw (se, le, e) (framed_more (at_mark b.mark.0 s) (undone kept b.mark.0 s) (oldest b.links links) b.innermost (Saved b ∷ rest) more_here sound_here framed_here)

  pub restores_saved : saved_of s' links' ns ≡ saved_of s links ns
  restores_saved = rw (se, le, e)
      (saved_more (at_mark b.mark.0 s) (undone kept b.mark.0 s) (oldest b.links links) (Saved b ∷ rest) more_here sound_here framed_here.marked
      ∙ saved-forgotten s b framed_first.marked.0 links (Saved b ∷ rest) framed_first.marked.1 framed_here.marked)

  pub restores_current : saved_of s links ns ≡ frames_at s' links' b.innermost ∷ drop 1 (saved_of s links ns)
  restores_current = rw (se, le, e)
      (ap (λ F. F ∷ saved_of (at_mark b.mark.0 s) (oldest b.links links) rest)
      (sym (frames_more (at_mark b.mark.0 s) (undone kept b.mark.0 s) (oldest b.links links) b.innermost more_here sound_here framed_here.placed)))

-- the exits that were handed behind the newest branch are taken back
pub then_framed : (s : Stored) (links links' : List Link) (k : ℕ) (ns ns' : List Note) → IsFramed s links k ns → links' ≡ links_then links ns → ns' ≡ notes_then ns → IsFramed s links' k ns'
then_framed s links links' k ns ns' f le ne = rw (le, ne) (framed_then s links k ns f)

pub then_saved : (s : Stored) (links links' : List Link) (ns ns' : List Note) → links' ≡ links_then links ns → ns' ≡ notes_then ns → saved_of s links' ns' ≡ saved_of s links ns
then_saved s links links' ns ns' le ne = rw (le, ne) (saved-then s links ns)

-- then the newest note is a branch, where frames are saved
pub then_some : (s : Stored) (links : List Link) (ns : List Note) → 0 < length (saved_of s links ns) → notes_then ns ≡ [] → ⊥
then_some s links [] l e = omega (arith, l)
then_some s links (Saved b ∷ ns) l e = cc
then_some s links (Handed k p ∷ ns) l e = then_some s (changed (taken_link p) k links) ns l e

pub branch_inside : (s : Stored) (links : List Link) (k : ℕ) (ns rest : List Note) (b : Branch) → IsFramed s links k ns → ns ≡ Saved b ∷ rest → (b.mark.0 ≤ length s.trail) × (b.links ≤ length links)
branch_inside s links k ns rest b f e =
    let m : AreMarked s links (Saved b ∷ rest) = subst (AreMarked s links) e f.marked in (m.0, m.1)

-- without the newest branch
pub forgets_framed : (s : Stored) (links : List Link) (k : ℕ) (ns ns' : List Note) → IsFramed s links k ns → ns' ≡ forgotten ns → IsFramed s links k ns'
forgets_framed s links k ns ns' f e = rw e (record { placed = f.placed; within = f.within; marked = marked-without s links ns f.marked })

pub forgets : (s : Stored) (links : List Link) (k : ℕ) (ns ns' : List Note) (now : Kept) → view_of s links k ns ≡ now → IsFramed s links k ns → ns' ≡ forgotten ns
    → view_of s links k ns' ≡ kept_of now.current (drop 1 now.saved)
forgets s links k ns ns' now view f e =
    kept_so (frames_at s links k) now.current (saved_of s links ns') (drop 1 now.saved) (ap (λ (x : Kept). x.current) view)
    (ap (saved_of s links) e ∙ saved-without s links ns f.marked ∙ ap (λ (x : Kept). drop 1 x.saved) view)

-- the frame of a query, whose terms are loaded into an empty store
module _ (s0 s1 s2 : Stored) (t : Tuple) (head : ℕ) (i : Instance) (empty : s0 ≡ record { cells = []; variables = 0; trail = [] })
    (first : s1 ≡ loaded s0 t.head 0) (there : head < length s1.cells) (made : term_at s1 head ≡ apply (meaning s0.cells s0.trail) (shifted 0 t.head))
    (grown : HasGrown s1 s2) (goals : terms_in s2 i.goals ≡ map (raised_in s1 0) t.body) (here : i.head.0 ≡ head) where
  free0 : (v : ℕ) → meaning s0.cells s0.trail v ≡ variable v
  free0 v = ap (λ (z : Stored). meaning z.cells z.trail v) empty

  free1 : (v : ℕ) → meaning s1.cells s1.trail v ≡ variable v
  free1 v = ap (λ (z : Stored). meaning z.cells z.trail v) first ∙ meaning-loaded s0 t.head 0 v ∙ free0 v

  bodies : (ts : List Term) → map (raised_in s1 0) ts ≡ ts
  bodies [] = refl
  bodies (x ∷ xs) = ap (λ y. y ∷ map (raised_in s1 0) xs) (loaded_free s1 x (λ v o. free1 v)) ∙ ap (λ ys. x ∷ ys) (bodies xs)

  pub opened_tuple : tuple_in s2 i ≡ t
  opened_tuple =
      ap (λ h. tuple_of (term_at s2 h) (terms_in s2 i.goals)) here
      ∙ ap (λ x. tuple_of x (terms_in s2 i.goals)) (grown.others head there ∙ made ∙ loaded_free s0 t.head (λ v o. free0 v))
      ∙ ap (tuple_of t.head) (goals ∙ bodies t.body)

  pub opened : (l : Link) (links : List Link) → links ≡ l ∷ [] → l ≡ record { box_no = 0; depth = 0; clause = 0; instance = i; done = 0; point = 0; around = 0 }
      → frames_at s2 links 1 ≡ query_frame t ∷ []
  opened l links le e =
      let l0 : Link = record { box_no = 0; depth = 0; clause = 0; instance = i; done = 0; point = 0; around = 0 } in
      rw (le, e) (ap (λ (x : Tuple). with_tuple l0 x ∷ []) opened_tuple)

-- the view of them, where nothing is saved
pub opened_kept : (s : Stored) (links : List Link) (bs : List Note) (t c : Tuple) → frames_at s links 1 ≡ query_frame t ∷ [] → bs ≡ [] → t ≡ c
    → view_of s links 1 bs ≡ kept_of (query_frame c ∷ []) []
opened_kept s links bs t c e be te = ap (view_of s links 1) be ∙ ap (λ F. kept_of F []) (e ∙ ap (λ (x : Tuple). query_frame x ∷ []) te)

-- terms were put into the store behind those of the frames
module _ (old new : Stored) (laid : HasLaid old new) where
  laid_tuple : (i : Instance) → IsInside (length old.cells) i → tuple_in new i ≡ tuple_in old i
  laid_tuple i h =
      ap (λ x. tuple_of x (terms_in new i.goals)) (laid.others i.head.0 h.head)
      ∙ ap (tuple_of (term_at old i.head.0)) (terms_same old new i.goals h.goals laid.others)

  pub laid_frames : (links : List Link) (k : ℕ) → ArePlaced (length old.cells) links → frames_at new links k ≡ frames_at old links k
  laid_frames [] k h = refl
  laid_frames (l ∷ older) k h =
      ap (λ x. if k == length older + 1 then with_tuple l x ∷ frames_at new older l.around else frames_at new older k) (laid_tuple l.instance h.0)
      ∙ ap (λ F. if k == length older + 1 then frame_in old l ∷ F else frames_at new older k) (laid_frames older l.around h.2)
      ∙ ap (λ F. if k == length older + 1 then frame_in old l ∷ frames_at old older l.around else F) (laid_frames older k h.2)

pub opened_framed : (s : Stored) (l : Link) (links : List Link) (bs : List Note) → links ≡ l ∷ [] → bs ≡ [] → l.around ≡ 0 → IsInside (length s.cells) l.instance → IsFramed s links 1 bs
opened_framed s l links bs le be a i = rw (le, be) (record { placed = (i, omega arith, tt); within = omega arith; marked = tt })

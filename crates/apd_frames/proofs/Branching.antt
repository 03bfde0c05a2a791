-- What stays of the frames at branches, and of exits that were handed.
use Rattle.std.proofs.Common.{◌≡◌, ℕ, suc, ◌+◌, ◌-◌, ◌<◌, ◌≤◌, List, [], ◌∷◌, length, drop, refl, sym, ◌∙◌, ap, subst, arith}
use Rattle.std.proofs.lemmas.List.{length-drop, drop-drop}
use Rattle.apd_cells.specs.Stored.{Stored}
use Rattle.apd_cells.specs.Store.{at_mark, Keeps}
use Rattle.apd_cells.proofs.Keeping.{at_mark-at_mark, length-before}
use Rattle.apd_frames.specs.Links.{Link}
use Rattle.apd_notes.specs.declared.notes.Branch.{Branch}
use Rattle.apd_notes.specs.declared.notes.Note.{Note}
use Rattle.apd_notes.specs.declared.notes.Note.TheVariants.{Saved, Handed}
use Rattle.apd_cells.proofs.Bindings.{Keeps-self}
use Rattle.apd_notes.specs.Notes.{forgotten}
use Rattle.apd_frames.specs.Instances.{IsInside}
use Rattle.apd_frames.specs.Linked.{changed, taken_link, frames_at, links_then, notes_then, oldest, saved_of, ArePlaced, AreMarked, IsFramed}
use Rattle.apd_frames.proofs.Changing.{changed_older, length-changed, oldest-changed, placed_changed}
use Rattle.apd_unify.specs.Cells.{AreCells}
use Rattle.apd_unify.specs.declared.store.Cell.{Cell}

pub inside_more : (n m : ℕ) (cs : List Cell) → n ≤ m → AreCells n cs → AreCells m cs
inside_more n m [] le h = tt
inside_more n m (c ∷ cs) le h = (omega (arith, h.0), inside_more n m cs le h.1)

pub placed_more : (n m : ℕ) (links : List Link) → n ≤ m → ArePlaced n links → ArePlaced m links
placed_more n m [] le h = tt
placed_more n m (l ∷ older) le h =
    (record { head = omega (arith, h.0.head); goals = inside_more n m l.instance.goals le h.0.goals }, h.1, placed_more n m older le h.2)

-- the store at an earlier mark stays
pub at_mark-kept : (old new : Stored) (k : ℕ) → Keeps old new → k ≤ length old.trail → at_mark k new ≡ at_mark k old
at_mark-kept old new k h l = sym (at_mark-at_mark k (length old.trail) new l h.0) ∙ ap (at_mark k) h.1

-- the older links stay
pub oldest-more : (l : Link) (links : List Link) (k : ℕ) → k ≤ length links → oldest k (l ∷ links) ≡ oldest k links
oldest-more l links k h =
    let e : length (l ∷ links) - k ≡ suc (length links - k) = omega arith in
    ap (λ j. drop j (l ∷ links)) e

oldest-all : (links : List Link) (k : ℕ) → k ≡ length links → oldest k links ≡ links
oldest-all links k h =
    let e : length links - k ≡ 0 = omega arith in
    ap (λ j. drop j links) e

length-oldest : (links : List Link) (k : ℕ) → k ≤ length links → length (oldest k links) ≡ k
length-oldest links k h = omega (arith, length-drop (length links - k) links)

oldest-oldest : (links : List Link) (j k : ℕ) → j ≤ k → k ≤ length links → oldest j (oldest k links) ≡ oldest j links
oldest-oldest links j k h l =
    let n = length-oldest links k l in
    let e : (length links - k) + (length (oldest k links) - j) ≡ length links - j = omega (arith, n) in
    drop-drop (length (oldest k links) - j) (length links - k) links ∙ ap (λ i. drop i links) e

-- more was done in the store
pub saved-kept : (old new : Stored) (links : List Link) (bs : List Note) → Keeps old new → AreMarked old links bs → saved_of new links bs ≡ saved_of old links bs
saved-kept old new links [] h m = refl
saved-kept old new links (Handed k p ∷ bs) h m = saved-kept old new (changed (taken_link p) k links) bs h m.1
saved-kept old new links (Saved b ∷ bs) h m =
    ap (λ (s : Stored). frames_at s (oldest b.links links) b.innermost ∷ saved_of s (oldest b.links links) bs) (at_mark-kept old new b.mark.0 h m.0)

marked-kept : (old new : Stored) (links : List Link) (bs : List Note) → Keeps old new → AreMarked old links bs → AreMarked new links bs
marked-kept old new links [] h m = tt
marked-kept old new links (Handed k p ∷ bs) h m = (m.0, marked-kept old new (changed (taken_link p) k links) bs h m.1)
marked-kept old new links (Saved b ∷ bs) h m =
    let e = sym (at_mark-kept old new b.mark.0 h m.0) in (
      omega (arith, h.0, m.0),
      m.1,
      m.2,
      subst (λ (s : Stored). ArePlaced (length s.cells) (oldest b.links links)) e m.3,
      subst (λ (s : Stored). AreMarked s (oldest b.links links) bs) e m.4,
    )

pub framed_kept : (old new : Stored) (links : List Link) (k : ℕ) (bs : List Note) → Keeps old new → length old.cells ≤ length new.cells → IsFramed old links k bs → IsFramed new links k bs
framed_kept old new links k bs h le f = record {
  placed = placed_more (length old.cells) (length new.cells) links le f.placed;
  within = f.within;
  marked = marked-kept old new links bs h f.marked;
}

-- one more link is not one that an exit was handed to
changed_behind : (l : Link) (links : List Link) (k p : ℕ) → k ≤ length links → changed (taken_link p) k (l ∷ links) ≡ l ∷ changed (taken_link p) k links
changed_behind l links k p h = changed_older (taken_link p) k l links (λ q. omega (arith, h))

-- one more link
pub saved-link : (s : Stored) (l : Link) (links : List Link) (bs : List Note) → AreMarked s links bs → saved_of s (l ∷ links) bs ≡ saved_of s links bs
saved-link s l links [] m = refl
saved-link s l links (Handed k p ∷ bs) m =
    ap (λ ls. saved_of s ls bs) (changed_behind l links k p m.0) ∙ saved-link s l (changed (taken_link p) k links) bs m.1
saved-link s l links (Saved b ∷ bs) m =
    let t = at_mark b.mark.0 s in
    ap (λ (ls : List Link). frames_at t ls b.innermost ∷ saved_of t ls bs) (oldest-more l links b.links m.1)

marked-link : (s : Stored) (l : Link) (links : List Link) (bs : List Note) → AreMarked s links bs → AreMarked s (l ∷ links) bs
marked-link s l links [] m = tt
marked-link s l links (Handed k p ∷ bs) m = (
  omega (arith, m.0),
  subst (λ ls. AreMarked s ls bs) (sym (changed_behind l links k p m.0)) (marked-link s l (changed (taken_link p) k links) bs m.1),
)
marked-link s l links (Saved b ∷ bs) m =
    let t = at_mark b.mark.0 s in
    let e = sym (oldest-more l links b.links m.1) in (
      m.0,
      omega (arith, m.1),
      m.2,
      subst (ArePlaced (length t.cells)) e m.3,
      subst (λ (ls : List Link). AreMarked t ls bs) e m.4,
    )

pub framed_link : (s : Stored) (l : Link) (links : List Link) (k n : ℕ) (bs : List Note) → IsFramed s links k bs → IsInside (length s.cells) l.instance → l.around ≤ length links → n ≤ length links + 1 → IsFramed s (l ∷ links) n bs
framed_link s l links k n bs f i a le = record {
  placed = (i, a, f.placed);
  within = omega (arith, le);
  marked = marked-link s l links bs f.marked;
}

-- another link of those is the innermost
pub framed_at : (s : Stored) (links : List Link) (k n : ℕ) (bs : List Note) → IsFramed s links k bs → n ≤ length links → IsFramed s links n bs
framed_at s links k n bs f le = record { placed = f.placed; within = le; marked = f.marked }

-- frames are saved: the newest branch is at the store and the links as they are
module _ (s : Stored) (links : List Link) (k : ℕ) (bs : List Note) (b : Branch) (f : IsFramed s links k bs) (mark : b.mark.0 ≡ length s.trail) (all : b.links ≡ length links) (is : b.innermost ≡ k) where
  store_there : at_mark b.mark.0 s ≡ s
  store_there = ap (λ j. at_mark j s) mark ∙ (Keeps-self s).1

  links_there : oldest b.links links ≡ links
  links_there = oldest-all links b.links all

  pub saved-branch : saved_of s links (Saved b ∷ bs) ≡ frames_at s links k ∷ saved_of s links bs
  saved-branch =
      ap (λ (t : Stored). frames_at t (oldest b.links links) b.innermost ∷ saved_of t (oldest b.links links) bs) store_there
      ∙ ap (λ (ls : List Link). frames_at s ls b.innermost ∷ saved_of s ls bs) links_there
      ∙ ap (λ j. frames_at s links j ∷ saved_of s links bs) is

  pub framed_branch : IsFramed s links k (Saved b ∷ bs)
  framed_branch = record {
    placed = f.placed;
    within = f.within;
    marked = (
      omega (arith, mark),
      omega (arith, all),
      omega (arith, is, all, f.within),
      subst (λ (t : Stored). ArePlaced (length t.cells) (oldest b.links links)) (sym store_there) (subst (ArePlaced (length s.cells)) (sym links_there) f.placed),
      subst (λ (t : Stored). AreMarked t (oldest b.links links) bs) (sym store_there) (subst (λ (ls : List Link). AreMarked s ls bs) (sym links_there) f.marked),
    );
  }

-- without the newest branch
module _ (s : Stored) (b : Branch) (l : b.mark.0 ≤ length s.trail) where
  trail_there : length (at_mark b.mark.0 s).trail ≡ b.mark.0
  trail_there = omega (arith, length-before s.cells s.variables s.trail (length s.trail - b.mark.0))

  earlier : (j : ℕ) → j ≤ length (at_mark b.mark.0 s).trail → at_mark j (at_mark b.mark.0 s) ≡ at_mark j s
  earlier j h = at_mark-at_mark j b.mark.0 s (omega (arith, h, trail_there)) l

  older : (links : List Link) (j : ℕ) → b.links ≤ length links → j ≤ length (oldest b.links links) → oldest j (oldest b.links links) ≡ oldest j links
  older links j m h = oldest-oldest links j b.links (omega (arith, h, length-oldest links b.links m)) m

  more_changed : (links : List Link) (k p : ℕ) → b.links ≤ length links → b.links ≤ length (changed (taken_link p) k links)
  more_changed links k p m = omega (arith, m, length-changed (taken_link p) k links)

  pub saved-forgotten : (links : List Link) (bs : List Note) → b.links ≤ length links → AreMarked (at_mark b.mark.0 s) (oldest b.links links) bs
      → saved_of (at_mark b.mark.0 s) (oldest b.links links) bs ≡ saved_of s links bs
  saved-forgotten links [] m h = refl
  saved-forgotten links (Handed k p ∷ bs) m h =
      let e : changed (taken_link p) k (oldest b.links links) ≡ oldest b.links (changed (taken_link p) k links) = sym (oldest-changed (taken_link p) k b.links links) in
      ap (λ ls. saved_of (at_mark b.mark.0 s) ls bs) e
      ∙ saved-forgotten (changed (taken_link p) k links) bs (more_changed links k p m) (subst (λ ls. AreMarked (at_mark b.mark.0 s) ls bs) e h.1)
  saved-forgotten links (Saved c ∷ bs) m h =
      ap (λ (t : Stored). frames_at t (oldest c.links (oldest b.links links)) c.innermost ∷ saved_of t (oldest c.links (oldest b.links links)) bs) (earlier c.mark.0 h.0)
      ∙ ap (λ (ls : List Link). frames_at (at_mark c.mark.0 s) ls c.innermost ∷ saved_of (at_mark c.mark.0 s) ls bs) (older links c.links m h.1)

  pub marked-forgotten : (links : List Link) (bs : List Note) → b.links ≤ length links → AreMarked (at_mark b.mark.0 s) (oldest b.links links) bs → AreMarked s links bs
  marked-forgotten links [] m h = tt
  marked-forgotten links (Handed k p ∷ bs) m h =
      let e : changed (taken_link p) k (oldest b.links links) ≡ oldest b.links (changed (taken_link p) k links) = sym (oldest-changed (taken_link p) k b.links links) in (
        omega (arith, h.0, length-oldest links b.links m, m),
        marked-forgotten (changed (taken_link p) k links) bs (more_changed links k p m) (subst (λ ls. AreMarked (at_mark b.mark.0 s) ls bs) e h.1),
      )
  marked-forgotten links (Saved c ∷ bs) m h =
      let e = earlier c.mark.0 h.0 in
      let o = older links c.links m h.1 in (
        omega (arith, h.0, trail_there),
        omega (arith, h.1, length-oldest links b.links m),
        h.2,
        subst (λ (ls : List Link). ArePlaced (length (at_mark c.mark.0 s).cells) ls) o (subst (λ (t : Stored). ArePlaced (length t.cells) (oldest c.links (oldest b.links links))) e h.3),
        subst (λ (ls : List Link). AreMarked (at_mark c.mark.0 s) ls bs) o (subst (λ (t : Stored). AreMarked t (oldest c.links (oldest b.links links)) bs) e h.4),
      )

  -- back at the newest branch, which stays
  pub framed_there : (links : List Link) (k : ℕ) (bs : List Note) → b.links ≤ length links → IsFramed s links k (Saved b ∷ bs) → IsFramed (at_mark b.mark.0 s) (oldest b.links links) b.innermost (Saved b ∷ bs)
  framed_there links k bs m f =
      let t = at_mark b.mark.0 s in
      let ls = oldest b.links links in
      let n : length ls ≡ b.links = length-oldest links b.links m in
      let e : at_mark b.mark.0 t ≡ t = earlier b.mark.0 (omega (arith, trail_there)) in
      let o : oldest b.links ls ≡ ls = older links b.links m (omega (arith, n)) in
      record {
        placed = f.marked.3;
        within = omega (arith, f.marked.2, n);
        marked = (
          omega (arith, trail_there),
          omega (arith, n),
          f.marked.2,
          subst (λ (x : Stored). ArePlaced (length x.cells) (oldest b.links ls)) (sym e) (subst (ArePlaced (length t.cells)) (sym o) f.marked.3),
          subst (λ (x : Stored). AreMarked x (oldest b.links ls) bs) (sym e) (subst (λ (xs : List Link). AreMarked t xs bs) (sym o) f.marked.4),
        );
      }

-- exits that were handed behind the newest branch are taken back
pub saved-then : (s : Stored) (links : List Link) (ns : List Note) → saved_of s (links_then links ns) (notes_then ns) ≡ saved_of s links ns
saved-then s links [] = refl
saved-then s links (Saved b ∷ ns) = refl
saved-then s links (Handed k p ∷ ns) = saved-then s (changed (taken_link p) k links) ns

length-then : (links : List Link) (ns : List Note) → length (links_then links ns) ≡ length links
length-then links [] = refl
length-then links (Saved b ∷ ns) = refl
length-then links (Handed k p ∷ ns) = length-then (changed (taken_link p) k links) ns ∙ length-changed (taken_link p) k links

placed_then : (n : ℕ) (links : List Link) (ns : List Note) → ArePlaced n links → ArePlaced n (links_then links ns)
placed_then n links [] h = h
placed_then n links (Saved b ∷ ns) h = h
placed_then n links (Handed k p ∷ ns) h = placed_then n (changed (taken_link p) k links) ns (placed_changed n (λ (l : Link). l.done - 1) p k links h)

marked-then : (s : Stored) (links : List Link) (ns : List Note) → AreMarked s links ns → AreMarked s (links_then links ns) (notes_then ns)
marked-then s links [] h = h
marked-then s links (Saved b ∷ ns) h = h
marked-then s links (Handed k p ∷ ns) h = marked-then s (changed (taken_link p) k links) ns h.1

pub framed_then : (s : Stored) (links : List Link) (k : ℕ) (ns : List Note) → IsFramed s links k ns → IsFramed s (links_then links ns) k (notes_then ns)
framed_then s links k ns f = record {
  placed = placed_then (length s.cells) links ns f.placed;
  within = omega (arith, f.within, length-then links ns);
  marked = marked-then s links ns f.marked;
}

-- the newest branch is forgotten
pub saved-without : (s : Stored) (links : List Link) (ns : List Note) → AreMarked s links ns → saved_of s links (forgotten ns) ≡ drop 1 (saved_of s links ns)
saved-without s links [] h = refl
saved-without s links (Saved b ∷ ns) h = sym (saved-forgotten s b h.0 links ns h.1 h.4)
saved-without s links (Handed k p ∷ ns) h = saved-without s (changed (taken_link p) k links) ns h.1

pub marked-without : (s : Stored) (links : List Link) (ns : List Note) → AreMarked s links ns → AreMarked s links (forgotten ns)
marked-without s links [] h = tt
marked-without s links (Saved b ∷ ns) h = marked-forgotten s b h.0 links ns h.1 h.4
marked-without s links (Handed k p ∷ ns) h = (h.0, marked-without s (changed (taken_link p) k links) ns h.1)

-- one exit is taken back
pub then_links : (links links' : List Link) (ns ns' : List Note) (n : Note) (k p : ℕ) → ns ≡ n ∷ drop 1 ns → n ≡ Handed k p → links' ≡ changed (taken_link p) k links → ns' ≡ drop 1 ns
    → links_then links' ns' ≡ links_then links ns
then_links links links' ns ns' n k p e is le ne = rw (le, ne) (sym (ap (links_then links) (e ∙ ap (λ x. x ∷ drop 1 ns) is)))

pub then_notes : (ns ns' : List Note) (n : Note) (k p : ℕ) → ns ≡ n ∷ drop 1 ns → n ≡ Handed k p → ns' ≡ drop 1 ns → notes_then ns' ≡ notes_then ns
then_notes ns ns' n k p e is ne = rw ne (sym (ap notes_then (e ∙ ap (λ x. x ∷ drop 1 ns) is)))

pub then_fewer : (ns ns' : List Note) (n : Note) → ns ≡ n ∷ drop 1 ns → ns' ≡ drop 1 ns → length ns' < length ns
then_fewer ns ns' n e ne = omega (arith, ap length e, ap length ne)

-- none is left to take back
pub then_none : (links : List Link) (ns : List Note) → ns ≡ [] → (links ≡ links_then links ns) × (ns ≡ notes_then ns)
then_none links ns e = (sym (ap (links_then links) e), e ∙ sym (ap notes_then e))

pub then_first : (links : List Link) (ns : List Note) (n : Note) (b : Branch) → ns ≡ n ∷ drop 1 ns → n ≡ Saved b → (links ≡ links_then links ns) × (ns ≡ notes_then ns)
then_first links ns n b e is =
    let f : ns ≡ Saved b ∷ drop 1 ns = e ∙ ap (λ x. x ∷ drop 1 ns) is in (sym (ap (links_then links) f), f ∙ sym (ap notes_then f))

-- How long what is known of sizes stays right.
use Rattle.std.proofs.Common.{Some, ◌≡◌, inl, inr, ℕ, zero, suc, ◌+◌, ◌-◌, ◌<◌, ◌≤◌, List, [], ◌∷◌, length, get_or, take, refl, sym, ◌∙◌, ap, subst, arith}
use Rattle.std.specs.Prelude.{reverse, slice_get, Option, None, MatchOption}
use Rattle.std.proofs.lemmas.Option.{slice_get_within, get_or_from_slice_get}
use Rattle.std.proofs.lemmas.List.{get_or-reverse, length-reverse, length-append}
use Rattle.apd_term.specs.declared.term.Sym.{Sym}
use Rattle.apd_term.specs.Term.{Occurs, size}
use Rattle.apd_cells.specs.declared.heap.TrailNote.{TrailNote}
use Rattle.apd_cells.specs.declared.heap.TrailNote.TheVariants.{Loaded, Bound}
use Rattle.apd_cells.specs.declared.known.Extent.{Extent}
use Rattle.apd_cells.specs.declared.known.KnownExtent.{KnownExtent}
use Rattle.apd_cells.specs.Stored.{Stored}
use Rattle.apd_cells.specs.Store.{written, term_at, at_mark, before_note, before_notes, bound, with_symbols, IsStore, Keeps}
use Rattle.apd_cells.specs.Known.{HasExtent, IsKnown, AreKnown, AreSized}
use Rattle.apd_cells.proofs.Meaning.{apply-absent}
use Rattle.apd_cells.proofs.Undoing.{at_mark-here, before_none, le_or_lt}
use Rattle.apd_cells.proofs.Bindings.{meaning-bound-applied, Keeps-bound, Keeps-self}
use Rattle.apd_cells.proofs.Keeping.{at_mark-at_mark, length-before, Keeps-behind, others-behind}

-- greater bounds
pub known_more : (s : Stored) (n m a b : ℕ) (ks : List KnownExtent) → n ≤ m → a ≤ b → AreKnown s n a ks → AreKnown s m b ks
known_more s n m a b [] l g h = tt
known_more s n m a b (k ∷ ks) l g h = (h.0, omega (arith, h.1), omega (arith, h.2), h.3)

-- one of them, by its place from the newest
known_one : (s : Stored) (n a : ℕ) (ks : List KnownExtent) (i : ℕ) (k : KnownExtent) → AreKnown s n a ks → i < length ks → get_or ks i k ≡ k → IsKnown s k × (k.since ≤ n)
known_one s n a [] i k h l e = absurd (omega arith)
known_one s n a (j ∷ ks) zero k h l e = (subst (IsKnown s) e h.0, omega (arith, h.1, ap (λ (x : KnownExtent). x.since) e))
known_one s n a (j ∷ ks) (suc i) k h l e =
    let r = known_one s j.since j.extent.above ks i k h.3 (omega arith) e in
    (r.0, omega (arith, r.1, h.1))

-- what is known is right now
pub known_now : (s : Stored) (k : KnownExtent) → IsKnown s k → k.since ≤ length s.trail → HasExtent s k.cell k.extent
known_now s k h l = subst (λ (t : Stored). HasExtent t k.cell k.extent) (at_mark-here (length s.trail) s (omega arith)) (h (length s.trail) l (omega arith))

-- what stands at a place from the oldest is right
pub known_there : (s : Stored) (n a : ℕ) (ks : List KnownExtent) (i : ℕ) (k : KnownExtent) → n ≤ length s.trail → AreKnown s n a ks → slice_get (reverse ks) i ≡ Some k → HasExtent s k.cell k.extent
known_there s n a ks i k l h e =
    let within : i < length ks = omega (arith, slice_get_within (reverse ks) i k e, length-reverse ks) in
    let one = known_one s n a ks (length ks - 1 - i) k h (omega arith) (sym (get_or-reverse ks i k within) ∙ get_or_from_slice_get (reverse ks) i k k e) in
    known_now s k one.0 (omega (arith, one.1))

-- one more note leaves right what it doesn't change
pub known_next : (s new : Stored) (k : KnownExtent) → Keeps s new → length new.trail ≤ length s.trail + 1 → HasExtent new k.cell k.extent → IsKnown s k → IsKnown new k
known_next s new k keeps more now h = λ mark since within. elim (le_or_lt mark (length s.trail)) [
  | inl l ↦
      subst (λ (t : Stored). HasExtent t k.cell k.extent) (ap (at_mark mark) (sym keeps.1) ∙ at_mark-at_mark mark (length s.trail) new l keeps.0) (h mark since l)
  | inr l ↦ subst (λ (t : Stored). HasExtent t k.cell k.extent) (sym (at_mark-here mark new (omega arith))) now
]

-- a binding of a variable that isn't there
extent_bound : (s : Stored) (v to c : ℕ) (e : Extent) → e.above ≤ v → HasExtent s c e → HasExtent (bound s v to) c e
extent_bound s v to c e l h =
    let same : term_at (bound s v to) c ≡ term_at s c =
    meaning-bound-applied s v to (written s.cells c) ∙ apply-absent v (term_at s to) (term_at s c) (λ o. (let b = h.below v o in omega arith)) in
    record {
      inside = h.inside;
      long = h.long ∙ ap size (sym same);
      below = λ w o. h.below w (subst (Occurs w) same o);
    }

pub known_bound : (s : Stored) (v to n a : ℕ) (ks : List KnownExtent) → n ≤ length s.trail → a ≤ v → AreKnown s n a ks → AreKnown (bound s v to) n a ks
known_bound s v to n a [] l g h = tt
known_bound s v to n a (k ∷ ks) l g h = (
  known_next s (bound s v to) k (Keeps-bound s s v to (Keeps-self s)) (omega arith) (extent_bound s v to k.cell k.extent (omega (arith, h.2)) (known_now s k h.0 (omega (arith, h.1)))) h.0,
  h.1,
  h.2,
  known_bound s v to k.since k.extent.above ks (omega (arith, h.1)) (omega (arith, h.2)) h.3,
)

-- more symbols behind the cells
pub extent_behind : (s : Stored) (xs : List Sym) (m c : ℕ) (e : Extent) → IsStore s.cells s.variables s.trail → HasExtent s c e → HasExtent (with_symbols s xs m) c e
extent_behind s xs m c e h k =
    let same : term_at (with_symbols s xs m) c ≡ term_at s c = others-behind s xs m c h k.inside in
    record {
      inside = omega (arith, k.inside, length-append s.cells xs);
      long = k.long ∙ ap size (sym same);
      below = λ w o. k.below w (subst (Occurs w) same o);
    }

known_behind : (s : Stored) (xs : List Sym) (m n a : ℕ) (ks : List KnownExtent) → IsStore s.cells s.variables s.trail → n ≤ length s.trail → AreKnown s n a ks → AreKnown (with_symbols s xs m) n a ks
known_behind s xs m n a [] i l h = tt
known_behind s xs m n a (k ∷ ks) i l h = (
  known_next s (with_symbols s xs m) k (Keeps-behind s xs m) (omega arith) (extent_behind s xs m k.cell k.extent i (known_now s k h.0 (omega (arith, h.1)))) h.0,
  h.1,
  h.2,
  known_behind s xs m k.since k.extent.above ks i (omega (arith, h.1)) h.3,
)

-- the store at a mark has so many notes
pub length-at_mark : (mark : ℕ) (s : Stored) → mark ≤ length s.trail → length (at_mark mark s).trail ≡ mark
length-at_mark mark s l = omega (arith, length-before s.cells s.variables s.trail (length s.trail - mark))

-- what was found up to a mark is right there
known_before : (s : Stored) (mark n a : ℕ) (ks : List KnownExtent) → mark ≤ length s.trail → AreKnown s n a ks → AreKnown (at_mark mark s) n a ks
known_before s mark n a [] l h = tt
known_before s mark n a (k ∷ ks) l h = (
  λ m since within.
      (let w : m ≤ mark = omega (arith, within, length-at_mark mark s l) in
      subst (λ (t : Stored). HasExtent t k.cell k.extent) (sym (at_mark-at_mark m mark s w l)) (h.0 m since (omega arith))),
  h.1,
  h.2,
  known_before s mark k.since k.extent.above ks l h.3,
)

-- the store before its newest note
before_one : (cells : List Sym) (n : ℕ) (note : TrailNote) (notes : List TrailNote) → before_notes cells n (note ∷ notes) 1 ≡ before_note cells n (note ∷ notes)
before_one cells n (Loaded c m) notes = before_none (take c cells) m notes
before_one cells n (Bound v c) notes = before_none cells n notes

pub before_is : (s : Stored) (note : TrailNote) (notes : List TrailNote) → s.trail ≡ note ∷ notes → at_mark (length notes) s ≡ before_note s.cells s.variables s.trail
before_is s note notes e =
    let one : length s.trail - length notes ≡ 1 = omega (arith, ap length e) in
    ap (before_notes s.cells s.variables s.trail) one ∙ ap (λ z. before_notes s.cells s.variables z 1) e ∙ before_one s.cells s.variables note notes
    ∙ ap (before_note s.cells s.variables) (sym e)

-- after a load
pub sized_behind : (s new : Stored) (xs : List Sym) (m : ℕ) (ground_terms open_terms : List KnownExtent) → IsStore s.cells s.variables s.trail → new ≡ with_symbols s xs m
    → AreSized s ground_terms open_terms → AreSized new ground_terms open_terms
sized_behind s new xs m ground_terms open_terms i e h = rw e (record {
  of_ground = known_more (with_symbols s xs m) (length s.trail) (length (with_symbols s xs m).trail) 0 0 ground_terms (omega arith) (omega arith)
      (known_behind s xs m (length s.trail) 0 ground_terms i (omega arith) h.of_ground);
  most = h.most;
  of_open = known_more (with_symbols s xs m) (length s.trail) (length (with_symbols s xs m).trail) h.most h.most open_terms (omega arith) (omega arith)
      (known_behind s xs m (length s.trail) h.most open_terms i (omega arith) h.of_open);
})

-- after a binding, where what it may change was forgotten
pub sized_bound : (s new : Stored) (v to : ℕ) (ground_terms open_terms left : List KnownExtent) → new ≡ bound s v to → AreSized s ground_terms open_terms
    → ((n a : ℕ) → AreKnown s n a open_terms → AreKnown s n v left) → AreSized new ground_terms left
sized_bound s new v to ground_terms open_terms left e h f = rw e (record {
  of_ground = known_more (bound s v to) (length s.trail) (length (bound s v to).trail) 0 0 ground_terms (omega arith) (omega arith) (known_bound s v to (length s.trail) 0 ground_terms (omega arith) (omega arith) h.of_ground);
  most = v;
  of_open = known_more (bound s v to) (length s.trail) (length (bound s v to).trail) v v left (omega arith) (omega arith)
      (known_bound s v to (length s.trail) v left (omega arith) (omega arith) (f (length s.trail) h.most h.of_open));
})

-- before the newest note, where what was found since was forgotten
pub sized_before : (s new : Stored) (note : TrailNote) (notes : List TrailNote) (ground_terms open_terms ground_left open_left : List KnownExtent) → s.trail ≡ note ∷ notes
    → new ≡ before_note s.cells s.variables s.trail → AreSized s ground_terms open_terms
    → ((n a : ℕ) → AreKnown s n a ground_terms → AreKnown s (length s.trail - 1) a ground_left)
    → ((n a : ℕ) → AreKnown s n a open_terms → AreKnown s (length s.trail - 1) a open_left) → AreSized new ground_left open_left
sized_before s new note notes ground_terms open_terms ground_left open_left e is h f g =
    let at : at_mark (length notes) s ≡ new = before_is s note notes e ∙ sym is in
    let long : length s.trail ≡ length notes + 1 = omega (arith, ap length e) in
    let there : length (at_mark (length notes) s).trail ≡ length s.trail - 1 = omega (arith, length-at_mark (length notes) s (omega arith)) in
    subst (λ (t : Stored). AreSized t ground_left open_left) at (record {
      of_ground = subst (λ n. AreKnown (at_mark (length notes) s) n 0 ground_left) (sym there)
          (known_before s (length notes) (length s.trail - 1) 0 ground_left (omega arith) (f (length s.trail) 0 h.of_ground));
      most = h.most;
      of_open = subst (λ n. AreKnown (at_mark (length notes) s) n h.most open_left) (sym there)
          (known_before s (length notes) (length s.trail - 1) h.most open_left (omega arith) (g (length s.trail) h.most h.of_open));
    })

-- what is forgotten as the program counts notes
pub forgets : (s : Stored) (notes : ℕ) (old left : List KnownExtent) → notes ≡ length s.trail → ((t : Stored) (n a : ℕ) → AreKnown t n a old → AreKnown t (notes - 1) a left)
    → (n a : ℕ) → AreKnown s n a old → AreKnown s (length s.trail - 1) a left
forgets s notes old left e f n a h = subst (λ m. AreKnown s (m - 1) a left) e (f s n a h)

-- the same where there is no note
pub sized_none : (s : Stored) (ground_terms open_terms ground_left open_left : List KnownExtent) → s.trail ≡ [] → AreSized s ground_terms open_terms
    → ((n a : ℕ) → AreKnown s n a ground_terms → AreKnown s (length s.trail - 1) a ground_left)
    → ((n a : ℕ) → AreKnown s n a open_terms → AreKnown s (length s.trail - 1) a open_left) → AreSized s ground_left open_left
sized_none s ground_terms open_terms ground_left open_left e h f g = record {
  of_ground = known_more s (length s.trail - 1) (length s.trail) 0 0 ground_left (omega arith) (omega arith) (f (length s.trail) 0 h.of_ground);
  most = h.most;
  of_open = known_more s (length s.trail - 1) (length s.trail) h.most h.most open_left (omega arith) (omega arith) (g (length s.trail) h.most h.of_open);
}

-- one more is known
pub known_here : (s : Stored) (k : KnownExtent) (e : Extent) → HasExtent s k.cell e → k.since ≡ length s.trail → k.extent.size ≡ e.size → e.above ≤ k.extent.above → IsKnown s k
known_here s k e h since size_is above_is = λ mark from within.
    (let now : HasExtent s k.cell k.extent = record { inside = h.inside; long = size_is ∙ h.long; below = λ v o. (let b = h.below v o in omega arith) } in
    subst (λ (t : Stored). HasExtent t k.cell k.extent) (sym (at_mark-here mark s (omega arith))) now)

pub sized_ground : (s : Stored) (k : KnownExtent) (ground_terms open_terms more : List KnownExtent) → HasExtent s k.cell k.extent → k.since ≡ length s.trail → k.extent.above ≡ 0
    → more ≡ k ∷ ground_terms → AreSized s ground_terms open_terms → AreSized s more open_terms
sized_ground s k ground_terms open_terms more x since none is h = record {
  of_ground = subst (AreKnown s (length s.trail) 0) (sym is) (
    known_here s k k.extent x since refl (omega arith),
    omega arith,
    omega arith,
    known_more s (length s.trail) k.since 0 k.extent.above ground_terms (omega arith) (omega arith) h.of_ground,
  );
  most = h.most;
  of_open = h.of_open;
}

pub sized_open : (s : Stored) (k : KnownExtent) (e : Extent) (ground_terms open_terms more : List KnownExtent) → HasExtent s k.cell e → k.since ≡ length s.trail → k.extent.size ≡ e.size
    → e.above ≤ k.extent.above → ((n a : ℕ) → AreKnown s n a open_terms → AreKnown s n k.extent.above open_terms)
    → more ≡ k ∷ open_terms → AreSized s ground_terms open_terms → AreSized s ground_terms more
sized_open s k e ground_terms open_terms more x since size_is above_is all is h = record {
  of_ground = h.of_ground;
  most = k.extent.above;
  of_open = subst (AreKnown s (length s.trail) k.extent.above) (sym is) (
    known_here s k e x since size_is above_is,
    omega arith,
    omega arith,
    known_more s (length s.trail) k.since k.extent.above k.extent.above open_terms (omega arith) (omega arith) (all (length s.trail) h.most h.of_open),
  );
}

-- without the newest
pub known_popped : (s : Stored) (n a : ℕ) (old new : List KnownExtent) (o : Option KnownExtent) → MatchOption o ((old ≡ []) × (new ≡ [])) (λ k. old ≡ k ∷ new) → AreKnown s n a old → AreKnown s n a new
known_popped s n a old new None e h = subst (AreKnown s n a) (sym e.1) tt
known_popped s n a old new (Some k) e h =
    let r : AreKnown s n a (k ∷ new) = subst (AreKnown s n a) e h in
    known_more s k.since n k.extent.above a new (omega (arith, r.1)) (omega (arith, r.2)) r.3

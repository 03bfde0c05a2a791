-- How long sizes that were measured lately stay right.
use Rattle.std.proofs.Common.{◌≡◌, inl, inr, ℕ, ◌+◌, ◌-◌, ◌<◌, ◌≤◌, List, [], ◌∷◌, length, get_or, drop, refl, sym, ◌∙◌, ap, subst, arith, zero, suc, ◌⊎◌, Option, Some, None}
use Rattle.std.specs.Prelude.{MatchOption, reverse, slice_get}
use Rattle.std.proofs.lemmas.Option.{slice_get_within, get_or_from_slice_get}
use Rattle.std.proofs.lemmas.List.{drop_more, get_or-reverse, length-reverse}
use Rattle.apd_term.specs.declared.term.Sym.{Sym}
use Rattle.apd_term.specs.declared.term.Sym.TheVariants.{Var, Int, Fun}
use Rattle.apd_term.specs.Term.{Term, Occurs, apply, size, first_of, read_all}
use Rattle.apd_term.specs.Substitution.{term_for, single}
use Rattle.apd_cells.specs.declared.heap.TrailNote.{TrailNote}
use Rattle.apd_cells.specs.declared.known.Extent.{Extent}
use Rattle.apd_cells.specs.declared.known.KnownExtent.{KnownExtent}
use Rattle.apd_cells.specs.Stored.{Stored}
use Rattle.apd_cells.specs.Store.{written, meaning, term_at, at_mark, before_note, bound, with_symbols, IsStore}
use Rattle.apd_cells.specs.declared.extents.Extents.{Extents}
use Rattle.apd_cells.specs.Known.{HasExtent, IsConstant, AreKnown, AreRecent, AreSized, IsSized}
use Rattle.apd_cells.proofs.Bindings.{Keeps-bound, Keeps-self, Occurs-single, meaning-bound-applied}
use Rattle.apd_cells.proofs.Flat.{single_size, size-applied}
use Rattle.apd_cells.proofs.Keeping.{Keeps-behind, at_mark-at_mark}
use Rattle.apd_cells.proofs.Sizing.{before_is, extent_behind, forgets, known_here, known_next, known_now, length-at_mark, sized_before, sized_behind, sized_none}

-- what begins with an integer or an atom is that alone
pub record IsAlone (t : Term) : Type 0 where
  pub one : size t ≡ 1
  pub none : (v : ℕ) → ¬ Occurs v t

alone_read : (f : ℕ → Term) (x : Sym) (rest : List Sym) → IsConstant x → IsAlone (apply f (first_of (read_all (x ∷ rest))))
alone_read f (Var v) rest h = absurd h
alone_read f (Int i) rest h = record { one = refl; none = λ v o. absurd o }
alone_read f (Fun g n) rest h = rw h (record { one = refl; none = λ v o. absurd o })

pub alone_at : (s : Stored) (c : ℕ) → c < length s.cells → IsConstant (get_or s.cells c (Var 0)) → IsAlone (term_at s c)
alone_at s c l h =
    let x = get_or s.cells c (Var 0) in
    let e : drop c s.cells ≡ x ∷ drop (c + 1) s.cells = drop_more s.cells c (Var 0) l in
    subst (λ ys. IsAlone (apply (meaning s.cells s.trail) (first_of (read_all ys)))) (sym e) (alone_read (meaning s.cells s.trail) x (drop (c + 1) s.cells) h)

-- a binding to an integer or an atom
extent_kept : (s : Stored) (v to c : ℕ) (e : Extent) → IsAlone (term_at s to) → HasExtent s c e → HasExtent (bound s v to) c e
extent_kept s v to c e k h =
    let x = term_at s to in
    let t = term_at s c in
    let is : term_at (bound s v to) c ≡ apply (term_for (single v x)) t = meaning-bound-applied s v to (written s.cells c) in
    record {
      inside = h.inside;
      long = h.long ∙ sym (size-applied (term_for (single v x)) (single_size v x k.one) t) ∙ ap size (sym is);
      below = λ w o. elim ((Occurs-single v x t w (k.none v) (subst (Occurs w) is o)).1) [
        | inl a ↦ absurd (k.none w a)
        | inr b ↦ h.below w b
      ];
    }

pub recent_more : (s : Stored) (n m : ℕ) (ks : List KnownExtent) → n ≤ m → AreRecent s n ks → AreRecent s m ks
recent_more s n m [] l h = tt
recent_more s n m (k ∷ ks) l h = (h.0, omega (arith, h.1), h.2)

recent_bound : (s : Stored) (v to n : ℕ) (ks : List KnownExtent) → n ≤ length s.trail → IsAlone (term_at s to) → AreRecent s n ks → AreRecent (bound s v to) n ks
recent_bound s v to n [] l a h = tt
recent_bound s v to n (k ∷ ks) l a h = (
  known_next s (bound s v to) k (Keeps-bound s s v to (Keeps-self s)) (omega arith) (extent_kept s v to k.cell k.extent a (known_now s k h.0 (omega (arith, h.1)))) h.0,
  h.1,
  recent_bound s v to k.since ks (omega (arith, h.1)) a h.2,
)

recent_behind : (s : Stored) (xs : List Sym) (m n : ℕ) (ks : List KnownExtent) → IsStore s.cells s.variables s.trail → n ≤ length s.trail → AreRecent s n ks → AreRecent (with_symbols s xs m) n ks
recent_behind s xs m n [] i l h = tt
recent_behind s xs m n (k ∷ ks) i l h = (
  known_next s (with_symbols s xs m) k (Keeps-behind s xs m) (omega arith) (extent_behind s xs m k.cell k.extent i (known_now s k h.0 (omega (arith, h.1)))) h.0,
  h.1,
  recent_behind s xs m k.since ks i (omega (arith, h.1)) h.2,
)

recent_before : (s : Stored) (mark n : ℕ) (ks : List KnownExtent) → mark ≤ length s.trail → AreRecent s n ks → AreRecent (at_mark mark s) n ks
recent_before s mark n [] l h = tt
recent_before s mark n (k ∷ ks) l h = (
  λ m since within.
      (let w : m ≤ mark = omega (arith, within, length-at_mark mark s l) in
      subst (λ (t : Stored). HasExtent t k.cell k.extent) (sym (at_mark-at_mark m mark s w l)) (h.0 m since (omega arith))),
  h.1,
  recent_before s mark k.since ks l h.2,
)

-- after a load
recent_after_load : (s new : Stored) (xs : List Sym) (m : ℕ) (ks : List KnownExtent) → IsStore s.cells s.variables s.trail → new ≡ with_symbols s xs m
    → AreRecent s (length s.trail) ks → AreRecent new (length new.trail) ks
recent_after_load s new xs m ks i e h =
    rw e (recent_more (with_symbols s xs m) (length s.trail) (length (with_symbols s xs m).trail) ks (omega arith) (recent_behind s xs m (length s.trail) ks i (omega arith) h))

-- after a binding, where all was forgotten unless it was one to an integer or an atom
pub recent_after_binding : (s new : Stored) (v to : ℕ) (ks left : List KnownExtent) → to < length s.cells → new ≡ bound s v to
    → (left ≡ []) ⊎ (IsConstant (get_or s.cells to (Var 0)) × (left ≡ ks)) → AreRecent s (length s.trail) ks → AreRecent new (length new.trail) left
recent_after_binding s new v to ks left l e (inl none) h = rw none tt
recent_after_binding s new v to ks left l e (inr k) h =
    rw (e, k.1) (recent_more (bound s v to) (length s.trail) (length (bound s v to).trail) ks (omega arith) (recent_bound s v to (length s.trail) ks (omega arith) (alone_at s to l k.0) h))

abbrev stored_of : Stored → List TrailNote → Stored
stored_of s z = record { cells = s.cells; variables = s.variables; trail = z }

-- where there is no note nothing is before one
pub none_before : (s : Stored) → s.trail ≡ [] → before_note s.cells s.variables s.trail ≡ s
none_before s e = ap (before_note s.cells s.variables) e ∙ ap (λ (z : List TrailNote). stored_of s z) (sym e)

-- before the newest note, where what was measured since was forgotten
pub recent_before_note : (s new : Stored) (notes : ℕ) (note : TrailNote) (rest : List TrailNote) (ks left : List KnownExtent) → notes ≡ length s.trail → s.trail ≡ note ∷ rest
    → new ≡ before_note s.cells s.variables s.trail → ((t : Stored) (n : ℕ) → AreRecent t n ks → AreRecent t (notes - 1) left)
    → AreRecent s (length s.trail) ks → AreRecent new (length new.trail) left
recent_before_note s new notes note rest ks left z e is f h =
    let at : at_mark (length rest) s ≡ new = before_is s note rest e ∙ sym is in
    let long : length s.trail ≡ length rest + 1 = omega (arith, ap length e) in
    let there : length (at_mark (length rest) s).trail ≡ notes - 1 = omega (arith, length-at_mark (length rest) s (omega arith)) in
    subst (λ (t : Stored). AreRecent t (length t.trail) left) at
    (subst (λ n. AreRecent (at_mark (length rest) s) n left) (sym there)
    (recent_before s (length rest) (notes - 1) left (omega arith) (f s (length s.trail) h)))

-- one more was measured
pub recent_one : (s : Stored) (k : KnownExtent) (ks more : List KnownExtent) → HasExtent s k.cell k.extent → k.since ≡ length s.trail → more ≡ k ∷ ks
    → AreRecent s (length s.trail) ks → AreRecent s (length s.trail) more
recent_one s k ks more x since is h =
    subst (AreRecent s (length s.trail)) (sym is) (
      known_here s k k.extent x since refl (omega arith),
      omega arith,
      recent_more s (length s.trail) k.since ks (omega arith) h,
    )

-- without the newest
pub recent_popped : (s : Stored) (n : ℕ) (old new : List KnownExtent) (o : Option KnownExtent) → MatchOption o ((old ≡ []) × (new ≡ [])) (λ k. old ≡ k ∷ new) → AreRecent s n old → AreRecent s n new
recent_popped s n old new None e h = subst (AreRecent s n) (sym e.1) tt
recent_popped s n old new (Some k) e h =
    let r : AreRecent s n (k ∷ new) = subst (AreRecent s n) e h in
    recent_more s k.since n new (omega (arith, r.1)) r.2

-- what stands at a place from the oldest is right
recent_at_place : (s : Stored) (n : ℕ) (ks : List KnownExtent) (i : ℕ) (k : KnownExtent) → n ≤ length s.trail → AreRecent s n ks → i < length ks → get_or ks i k ≡ k → HasExtent s k.cell k.extent
recent_at_place s n [] i k l h w e = absurd (omega arith)
recent_at_place s n (j ∷ ks) zero k l h w e = subst (λ (x : KnownExtent). HasExtent s x.cell x.extent) e (known_now s j h.0 (omega (arith, h.1)))
recent_at_place s n (j ∷ ks) (suc i) k l h w e = recent_at_place s j.since ks i k (omega (arith, h.1)) h.2 (omega arith) e

pub recent_there : (s : Stored) (n : ℕ) (ks : List KnownExtent) (i : ℕ) (k : KnownExtent) → n ≤ length s.trail → AreRecent s n ks → slice_get (reverse ks) i ≡ Some k → HasExtent s k.cell k.extent
recent_there s n ks i k l h e =
    let within : i < length ks = omega (arith, slice_get_within (reverse ks) i k e, length-reverse ks) in
    recent_at_place s n ks (length ks - 1 - i) k l h (omega arith) (sym (get_or-reverse ks i k within) ∙ get_or_from_slice_get (reverse ks) i k k e)

-- unless all was forgotten
pub recent_room : (s : Stored) (n : ℕ) (ks left : List KnownExtent) → (left ≡ ks) ⊎ (left ≡ []) → AreRecent s n ks → AreRecent s n left
recent_room s n ks left (inl e) h = rw e h
recent_room s n ks left (inr e) h = rw e tt

-- all of it, after a load
pub sizes_behind : (s new : Stored) (xs : List Sym) (m : ℕ) (k : Extents) → IsStore s.cells s.variables s.trail → new ≡ with_symbols s xs m → IsSized s k → IsSized new k
sizes_behind s new xs m k i e h = record {
  kept = sized_behind s new xs m k.ground_terms k.open_terms i e h.kept;
  lately = recent_after_load s new xs m k.recent i e h.lately;
}

-- before the newest note, if there is one
pub recent_undone : (s : Stored) (z : List TrailNote) (notes : ℕ) (ks left : List KnownExtent) → s.trail ≡ z → notes ≡ length s.trail
    → ((t : Stored) (n : ℕ) → AreRecent t n ks → AreRecent t (notes - 1) left) → AreRecent s (length s.trail) ks
    → AreRecent (before_note s.cells s.variables s.trail) (length (before_note s.cells s.variables s.trail).trail) left
recent_undone s [] notes ks left e z f h =
    let none : before_note s.cells s.variables s.trail ≡ s = none_before s e in
    subst (λ (t : Stored). AreRecent t (length t.trail) left) (sym none) (recent_more s (notes - 1) (length s.trail) left (omega arith) (f s (length s.trail) h))
recent_undone s (note ∷ rest) notes ks left e z f h = recent_before_note s (before_note s.cells s.variables s.trail) notes note rest ks left z e refl f h

pub sized_undone : (s : Stored) (z : List TrailNote) (notes : ℕ) (ground_terms open_terms ground_left open_left : List KnownExtent) → s.trail ≡ z → notes ≡ length s.trail
    → ((t : Stored) (n a : ℕ) → AreKnown t n a ground_terms → AreKnown t (notes - 1) a ground_left)
    → ((t : Stored) (n a : ℕ) → AreKnown t n a open_terms → AreKnown t (notes - 1) a open_left)
    → AreSized s ground_terms open_terms → AreSized (before_note s.cells s.variables s.trail) ground_left open_left
sized_undone s [] notes ground_terms open_terms ground_left open_left e z f g h =
    subst (λ (t : Stored). AreSized t ground_left open_left) (sym (none_before s e))
    (sized_none s ground_terms open_terms ground_left open_left e h (forgets s notes ground_terms ground_left z f) (forgets s notes open_terms open_left z g))
sized_undone s (note ∷ rest) notes ground_terms open_terms ground_left open_left e z f g h =
    sized_before s (before_note s.cells s.variables s.trail) note rest ground_terms open_terms ground_left open_left e refl h
    (forgets s notes ground_terms ground_left z f) (forgets s notes open_terms open_left z g)

-- what is known after a binding, and before the newest note
pub sizes_bound : (s new : Stored) (v to : ℕ) (old left : Extents) → new ≡ bound s v to → (IsSized s old → IsSized (bound s v to) left) → IsSized s old → IsSized new left
sizes_bound s new v to old left e f h = subst (λ (t : Stored). IsSized t left) (sym e) (f h)

pub sizes_undone : (s new : Stored) (left : Extents) → new ≡ before_note s.cells s.variables s.trail → IsSized (before_note s.cells s.variables s.trail) left → IsSized new left
sizes_undone s new left e h = subst (λ (t : Stored). IsSized t left) (sym e) h

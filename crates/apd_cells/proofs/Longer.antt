-- More cells behind the others, to which no binding leads, change no term.
use Rattle.std.proofs.Common.{◌≡◌, ℕ, zero, suc, ◌-◌, ◌<◌, ◌≤◌, List, [], ◌∷◌, ◌++◌, length, take, refl, sym, ◌∙◌, ap, subst, arith}
use Rattle.std.proofs.lemmas.List.{append-nil, length-append, take-append-le, get_or_append_left}
use Rattle.apd_term.specs.declared.term.Sym.{Sym}
use Rattle.apd_term.specs.declared.term.Sym.TheVariants.{Var}
use Rattle.apd_term.specs.Term.{apply, size, Occurs}
use Rattle.apd_term.specs.Substitution.{term_for, single}
use Rattle.apd_term.proofs.Variants.{apply-agree}
use Rattle.apd_cells.specs.declared.heap.TrailNote.{TrailNote}
use Rattle.apd_cells.specs.declared.heap.TrailNote.TheVariants.{Loaded, Bound}
use Rattle.apd_cells.specs.declared.known.Extent.{Extent}
use Rattle.apd_cells.specs.declared.known.KnownExtent.{KnownExtent}
use Rattle.apd_cells.specs.Flat.{compound_in, compound_count}
use Rattle.apd_cells.specs.Heap.{AllTouched}
use Rattle.apd_cells.specs.declared.extents.Extents.{Extents}
use Rattle.apd_cells.specs.Known.{HasExtent, IsKnown, AreKnown, AreRecent, AreSized, IsSized}
use Rattle.apd_cells.specs.Stored.{Stored}
use Rattle.apd_cells.specs.Store.{written, meaning, term_at, before_notes, at_mark, HasCells, MayBind, IsStore, IsSound}
use Rattle.apd_cells.specs.Undone.{HasMoreCells}
use Rattle.apd_cells.proofs.Undoing.{before_more}
use Rattle.apd_cells.proofs.Meaning.{HasCells-of}
use Rattle.apd_cells.proofs.Written.{written-append}

same_under : (cells more : List Sym) (n : ℕ) (notes : List TrailNote) (c : ℕ) → IsStore cells n notes → ((v : ℕ) → meaning (cells ++ more) notes v ≡ meaning cells notes v) → c < length cells
    → apply (meaning (cells ++ more) notes) (written (cells ++ more) c) ≡ apply (meaning cells notes) (written cells c)
same_under cells more n notes c h same l =
    ap (apply (meaning (cells ++ more) notes)) (written-append cells more c (HasCells-of cells n notes h).whole l)
    ∙ apply-agree (meaning (cells ++ more) notes) (meaning cells notes) (written cells c) (λ v o. same v)

pub meaning-more : (cells more : List Sym) (n : ℕ) (notes : List TrailNote) (v : ℕ) → IsStore cells n notes → meaning (cells ++ more) notes v ≡ meaning cells notes v
meaning-more cells more n [] v h = refl
meaning-more cells more n (Loaded c m ∷ notes) v h = ap (λ z. meaning z notes v) (take-append-le c cells more h.1.0)
meaning-more cells more n (Bound w c ∷ notes) v h =
    let t = same_under cells more n notes c h.1 (λ u. meaning-more cells more n notes u h.1) h.0.inside in
    ap (λ z. apply (term_for (single w z)) (meaning (cells ++ more) notes v)) t
    ∙ ap (apply (term_for (single w (apply (meaning cells notes) (written cells c))))) (meaning-more cells more n notes v h.1)

pub term-more : (cells more : List Sym) (n : ℕ) (notes : List TrailNote) (c : ℕ) → IsStore cells n notes → c < length cells
    → apply (meaning (cells ++ more) notes) (written (cells ++ more) c) ≡ apply (meaning cells notes) (written cells c)
term-more cells more n notes c h l = same_under cells more n notes c h (λ v. meaning-more cells more n notes v h) l

pub MayBind-more : (cells more : List Sym) (n n' : ℕ) (notes : List TrailNote) (v c : ℕ) → IsStore cells n notes → n ≤ n' → MayBind cells n notes v c → MayBind (cells ++ more) n' notes v c
MayBind-more cells more n n' notes v c h l b = record {
  inside = omega (arith, b.inside, length-append cells more);
  below = omega (arith, b.below);
  free = b.free;
  acyclic = λ o. b.acyclic (subst (Occurs v) (term-more cells more n notes c h b.inside) o);
  down = λ w e. b.down w (sym (get_or_append_left cells more (Var 0) c b.inside) ∙ e);
}

pub store-more : (cells more : List Sym) (n n' : ℕ) (notes : List TrailNote) → HasCells (cells ++ more) n' → n ≤ n' → IsStore cells n notes → IsStore (cells ++ more) n' notes
store-more cells more n n' [] w l h = w
store-more cells more n n' (Loaded c m ∷ notes) w l h =
    (w, (omega (arith, h.1.0, length-append cells more), (omega (arith, h.1.1.0), subst (λ z. IsStore z m notes) (sym (take-append-le c cells more h.1.0)) h.1.1.1)))
store-more cells more n n' (Bound v c ∷ notes) w l h = (MayBind-more cells more n n' notes v c h.1 l h.0, store-more cells more n n' notes w l h.1)

pub touched-longer : (cells more : List Sym) (n : ℕ) (notes : List TrailNote) (k : ℕ) → IsStore cells n notes → AllTouched cells notes k → AllTouched (cells ++ more) notes k
touched-longer cells more n [] k h a = tt
touched-longer cells more n (Loaded c m ∷ notes) k h a = subst (λ z. AllTouched z notes k) (sym (take-append-le c cells more h.1.0)) a
touched-longer cells more n (Bound v c ∷ notes) k h a = (
  λ u o. a.0 u (subst (Occurs u) (written-append cells more c (HasCells-of cells n notes h.1).whole h.0.inside) o),
  touched-longer cells more n notes k h.1 a.1,
)

pub compound-longer : (cells more : List Sym) (n : ℕ) (notes : List TrailNote) → IsStore cells n notes → compound_count (cells ++ more) notes ≡ compound_count cells notes
compound-longer cells more n [] h = refl
compound-longer cells more n (Loaded c m ∷ notes) h = ap (λ z. compound_count z notes) (take-append-le c cells more h.1.0)
compound-longer cells more n (Bound v c ∷ notes) h =
    omega (arith, ap compound_in (get_or_append_left cells more (Var 0) c h.0.inside), compound-longer cells more n notes h.1)

-- a store at a mark is sound
sound_before : (cells : List Sym) (n : ℕ) (notes : List TrailNote) (j : ℕ) → IsStore cells n notes → IsSound (before_notes cells n notes j)
sound_before cells n [] zero h = h
sound_before cells n [] (suc j) h = h
sound_before cells n (Loaded c m ∷ notes) zero h = h
sound_before cells n (Loaded c m ∷ notes) (suc j) h =
    subst IsSound (sym (before_more cells n (Loaded c m) notes j)) (sound_before (take c cells) m notes j h.1.1.1)
sound_before cells n (Bound v c ∷ notes) zero h = h
sound_before cells n (Bound v c ∷ notes) (suc j) h =
    subst IsSound (sym (before_more cells n (Bound v c) notes j)) (sound_before cells n notes j h.1)

pub sound_at_mark : (k : ℕ) (s : Stored) → IsSound s → IsSound (at_mark k s)
sound_at_mark k s h = sound_before s.cells s.variables s.trail (length s.trail - k) h

-- stores that differ in such cells
pub more_self : (s : Stored) → HasMoreCells s s
more_self s = record { more = []; cells = sym (append-nil s.cells); variables = omega arith; trail = refl }

pub more_length : (s t : Stored) → HasMoreCells s t → length s.cells ≤ length t.cells
more_length s t h = omega (arith, ap length h.cells, length-append s.cells h.more)

pub more_term : (s t : Stored) (c : ℕ) → HasMoreCells s t → IsSound s → c < length s.cells → term_at t c ≡ term_at s c
more_term s t c h i l =
    ap (λ z. apply (meaning z t.trail) (written z c)) h.cells
    ∙ ap (λ z. apply (meaning (s.cells ++ h.more) z) (written (s.cells ++ h.more) c)) h.trail
    ∙ term-more s.cells h.more s.variables s.trail c i l

-- they differ so at each mark
more_before : (cells more : List Sym) (n n' : ℕ) (notes : List TrailNote) (j : ℕ) → IsStore cells n notes → n ≤ n' → HasMoreCells (before_notes cells n notes j) (before_notes (cells ++ more) n' notes j)
more_before cells more n n' [] j h l = record { more = more; cells = refl; variables = l; trail = refl }
more_before cells more n n' (Loaded c m ∷ notes) zero h l = record { more = more; cells = refl; variables = l; trail = refl }
more_before cells more n n' (Loaded c m ∷ notes) (suc j) h l =
    let a = before_more cells n (Loaded c m) notes j in
    let b = before_more (cells ++ more) n' (Loaded c m) notes j ∙ ap (λ z. before_notes z m notes j) (take-append-le c cells more h.1.0) in
    subst (λ z. HasMoreCells (before_notes cells n (Loaded c m ∷ notes) (suc j)) z) (a ∙ sym b) (more_self (before_notes cells n (Loaded c m ∷ notes) (suc j)))
more_before cells more n n' (Bound v c ∷ notes) zero h l = record { more = more; cells = refl; variables = l; trail = refl }
more_before cells more n n' (Bound v c ∷ notes) (suc j) h l =
    subst (λ z. HasMoreCells z (before_notes (cells ++ more) n' (Bound v c ∷ notes) (suc j))) (sym (before_more cells n (Bound v c) notes j))
    (subst (λ z. HasMoreCells (before_notes cells n notes j) z) (sym (before_more (cells ++ more) n' (Bound v c) notes j)) (more_before cells more n n' notes j h.1 l))

pub more_at_mark : (s t : Stored) (k : ℕ) → HasMoreCells s t → IsSound s → HasMoreCells (at_mark k s) (at_mark k t)
more_at_mark s t k h i =
    let j = length s.trail - k in
    let e : at_mark k t ≡ before_notes (s.cells ++ h.more) t.variables s.trail j =
    ap (λ z. before_notes t.cells t.variables z (length z - k)) h.trail ∙ ap (λ z. before_notes z t.variables s.trail j) h.cells in
    subst (HasMoreCells (at_mark k s)) (sym e) (more_before s.cells h.more s.variables t.variables s.trail j i h.variables)

-- what is known of sizes
more_extent : (s t : Stored) (c : ℕ) (e : Extent) → HasMoreCells s t → IsSound s → HasExtent s c e → HasExtent t c e
more_extent s t c e h i k =
    let same : term_at t c ≡ term_at s c = more_term s t c h i k.inside in
    record {
      inside = omega (arith, k.inside, more_length s t h);
      long = k.long ∙ ap size (sym same);
      below = λ v o. k.below v (subst (Occurs v) same o);
    }

more_each : (s t : Stored) (k : KnownExtent) → HasMoreCells s t → IsSound s → IsKnown s k → IsKnown t k
more_each s t k h i x = λ mark since within.
    more_extent (at_mark mark s) (at_mark mark t) k.cell k.extent (more_at_mark s t mark h i) (sound_at_mark mark s i)
    (x mark since (omega (arith, within, ap length h.trail)))

more_known : (s t : Stored) (n a : ℕ) (ks : List KnownExtent) → HasMoreCells s t → IsSound s → AreKnown s n a ks → AreKnown t n a ks
more_known s t n a [] h i x = tt
more_known s t n a (k ∷ ks) h i x = (
  more_each s t k h i x.0,
  x.1,
  x.2,
  more_known s t k.since k.extent.above ks h i x.3,
)

more_recent : (s t : Stored) (n : ℕ) (ks : List KnownExtent) → HasMoreCells s t → IsSound s → AreRecent s n ks → AreRecent t n ks
more_recent s t n [] h i x = tt
more_recent s t n (k ∷ ks) h i x = (more_each s t k h i x.0, x.1, more_recent s t k.since ks h i x.2)

more_sized : (s t : Stored) (ground_terms open_terms : List KnownExtent) → HasMoreCells s t → IsSound s → AreSized s ground_terms open_terms → AreSized t ground_terms open_terms
more_sized s t ground_terms open_terms h i x =
    let n : length s.trail ≡ length t.trail = sym (ap length h.trail) in
    record {
      of_ground = subst (λ z. AreKnown t z 0 ground_terms) n (more_known s t (length s.trail) 0 ground_terms h i x.of_ground);
      most = x.most;
      of_open = subst (λ z. AreKnown t z x.most open_terms) n (more_known s t (length s.trail) x.most open_terms h i x.of_open);
    }

pub more_sizes : (s t : Stored) (k : Extents) → HasMoreCells s t → IsSound s → IsSized s k → IsSized t k
more_sizes s t k h i x = record {
  kept = more_sized s t k.ground_terms k.open_terms h i x.kept;
  lately = subst (λ z. AreRecent t z k.recent) (sym (ap length h.trail)) (more_recent s t (length s.trail) k.recent h i x.lately);
}

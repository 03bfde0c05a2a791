-- What undoing leaves where a front of the cells is kept.
use Rattle.std.proofs.Common.{◌≡◌, inl, inr, ℕ, zero, suc, ◌-◌, ◌<◌, ◌≤◌, List, [], ◌∷◌, ◌++◌, length, take, drop, refl, sym, ◌∙◌, ap, subst, arith}
use Rattle.std.specs.Prelude.{min, max}
use Rattle.std.specs.List.{flat_map}
use Rattle.std.proofs.Math.ListN.{get_or-eq_default}
use Rattle.std.proofs.lemmas.List.{append-nil, length-take, take-take, take-append-drop, take-append-le, get_or-take}
use Rattle.std.proofs.lemmas.List.Concat.{flat_map-append}
use Rattle.apd_term.specs.declared.term.Sym.{Sym}
use Rattle.apd_term.specs.Term.{IsAmong}
use Rattle.apd_term.specs.Spelling.{variable_in}
use Rattle.apd_term.proofs.Among.{IsAmong-left}
use Rattle.apd_cells.specs.declared.front.Front.{Front}
use Rattle.apd_cells.specs.declared.heap.TrailNote.{TrailNote}
use Rattle.apd_cells.specs.declared.heap.TrailNote.TheVariants.{Loaded, Bound}
use Rattle.apd_cells.specs.declared.heap.Binding.{Binding}
use Rattle.apd_cells.specs.declared.heap.Binding.TheVariants.{Free}
use Rattle.apd_cells.specs.Flat.{compound_count, AreShort}
use Rattle.apd_cells.specs.Heap.{AllTouched, IsHeap, IsMarked}
use Rattle.apd_cells.specs.Known.{IsSized}
use Rattle.apd_cells.specs.declared.extents.Extents.{Extents}
use Rattle.apd_cells.specs.Stored.{Stored}
use Rattle.apd_cells.specs.Store.{binding_of, before_note, before_notes, at_mark, HasCells, IsStore, IsSound}
use Rattle.apd_cells.specs.Undone.{no_front, IsFront, without_note, without_notes, undone, HasMoreCells}
use Rattle.apd_cells.proofs.Flat.{short_taken}
use Rattle.apd_cells.proofs.Following.{viewed}
use Rattle.apd_cells.proofs.Longer.{compound-longer, more_self, more_sizes, store-more, touched-longer}
use Rattle.apd_cells.proofs.Meaning.{HasCells-of}
use Rattle.apd_cells.proofs.Undoing.{before_more, free-above, le_or_lt, not_zero}

-- no note is taken back, or one, or some and then more
pub without_none : (kept : Front) (cells : List Sym) (n : ℕ) (notes : List TrailNote) → without_notes kept cells n notes 0 ≡ record { cells = cells; variables = n; trail = notes }
without_none kept cells n [] = refl
without_none kept cells n (Loaded c m ∷ notes) = refl
without_none kept cells n (Bound v c ∷ notes) = refl

-- the newest note first, and then the others
without_more : (kept : Front) (cells : List Sym) (n : ℕ) (note : TrailNote) (notes : List TrailNote) (j : ℕ)
    → without_notes kept cells n (note ∷ notes) (suc j) ≡ (let s = without_note kept cells n (note ∷ notes) in without_notes kept s.cells s.variables s.trail j)
without_more kept cells n (Loaded c m) notes j =
    let left = take (max c kept.cells) cells in
    let count = min n (max m kept.variables) in
    let e : suc j - 1 ≡ j = omega arith in
    not_zero (suc j) (record { cells = cells; variables = n; trail = Loaded c m ∷ notes }) (without_notes kept left count notes (suc j - 1)) (omega arith)
    ∙ ap (without_notes kept left count notes) e
without_more kept cells n (Bound v c) notes j =
    let e : suc j - 1 ≡ j = omega arith in
    not_zero (suc j) (record { cells = cells; variables = n; trail = Bound v c ∷ notes }) (without_notes kept cells n notes (suc j - 1)) (omega arith)
    ∙ ap (without_notes kept cells n notes) e

pub undone_here : (kept : Front) (k : ℕ) (s : Stored) → length s.trail ≤ k → undone kept k s ≡ s
undone_here kept k s l =
    let e : length s.trail - k ≡ 0 = omega arith in
    ap (without_notes kept s.cells s.variables s.trail) e ∙ without_none kept s.cells s.variables s.trail

-- the cells that are left are whole terms
below_take : (cells : List Sym) (c n v : ℕ) → HasCells cells n → IsAmong (flat_map variable_in (take c cells)) v → v < n
below_take cells c n v h o =
    h.below v (subst (λ z. IsAmong (flat_map variable_in z) v) (take-append-drop c cells)
    (subst (λ z. IsAmong z v) (sym (flat_map-append variable_in (take c cells) (drop c cells)))
    (IsAmong-left (flat_map variable_in (take c cells)) (flat_map variable_in (drop c cells)) v o)))

wider : (cells : List Sym) (c n k m : ℕ) → HasCells cells n → HasCells (take c cells) k → k ≤ m → HasCells (take c cells) (min n m)
wider cells c n k m h i l = record {
  whole = i.whole;
  below = λ v o. (let a = below_take cells c n v h o in let b = i.below v o in omega arith);
}

left_whole : (kept : Front) (cells : List Sym) (n c m : ℕ) → HasCells cells n → IsFront kept cells → HasCells (take c cells) m
    → HasCells (take (max c kept.cells) cells) (min n (max m kept.variables))
left_whole kept cells n c m h f i = elim (le_or_lt c kept.cells) [
  | inl l ↦
      (let e : kept.cells ≡ max c kept.cells = omega arith in
      subst (λ z. HasCells (take z cells) (min n (max m kept.variables))) e (wider cells kept.cells n kept.variables (max m kept.variables) h f (omega arith)))
  | inr l ↦
      (let e : c ≡ max c kept.cells = omega arith in
      subst (λ z. HasCells (take z cells) (min n (max m kept.variables))) e (wider cells c n m (max m kept.variables) h i (omega arith)))
]

-- they begin with those that were there before the load
pub left_more : (cells : List Sym) (c k : ℕ) → take (max c k) cells ≡ take c cells ++ drop c (take (max c k) cells)
left_more cells c k =
    sym (take-append-drop c (take (max c k) cells))
    ∙ ap (λ z. z ++ drop c (take (max c k) cells)) (take-take c (max c k) cells (omega arith))

pub without_has_more : (kept : Front) (cells : List Sym) (n : ℕ) (notes : List TrailNote) → IsStore cells n notes
    → HasMoreCells (before_note cells n notes) (without_note kept cells n notes)
without_has_more kept cells n [] h = more_self (before_note cells n [])
without_has_more kept cells n (Loaded c m ∷ notes) h =
    record { more = drop c (take (max c kept.cells) cells); cells = left_more cells c kept.cells; variables = omega (arith, h.1.1.0); trail = refl }
without_has_more kept cells n (Bound v c ∷ notes) h = more_self (before_note cells n (Bound v c ∷ notes))

pub whole_without : (kept : Front) (cells : List Sym) (n c m : ℕ) (notes : List TrailNote) → IsStore cells n (Loaded c m ∷ notes) → IsFront kept cells
    → HasCells (take (max c kept.cells) cells) (min n (max m kept.variables))
whole_without kept cells n c m notes h f = left_whole kept cells n c m h.0 f (HasCells-of (take c cells) m notes h.1.1.1)

-- the heap before a term was loaded, but for the front
module _ (kept : Front) (cells : List Sym) (bindings : List Binding) (trail notes : List TrailNote) (c m : ℕ) (h : IsHeap cells bindings trail) (f : IsFront kept cells) (e : trail ≡ Loaded c m ∷ notes) where
  store_here : IsStore cells (length bindings) (Loaded c m ∷ notes)
  store_here = subst (IsStore cells (length bindings)) e h.kept

  pub length_left : length (take (max m kept.variables) bindings) ≡ min (length bindings) (max m kept.variables)
  length_left = omega (arith, length-take (max m kept.variables) bindings)

  pub store_left : IsStore (take (max c kept.cells) cells) (min (length bindings) (max m kept.variables)) notes
  store_left =
      let w = whole_without kept cells (length bindings) c m notes store_here f in
      let more = drop c (take (max c kept.cells) cells) in
      let is = left_more cells c kept.cells in
      subst (λ z. IsStore z (min (length bindings) (max m kept.variables)) notes) (sym is)
      (store-more (take c cells) more m (min (length bindings) (max m kept.variables)) notes (subst (λ z. HasCells z (min (length bindings) (max m kept.variables))) is w)
      (omega (arith, store_here.1.1.0)) store_here.1.1.1)

  pub heap_left : IsHeap (take (max c kept.cells) cells) (take (max m kept.variables) bindings) notes
  heap_left = record {
    kept = subst (λ j. IsStore (take (max c kept.cells) cells) j notes) (sym length_left) store_left;
    agrees = λ v. elim (le_or_lt (max m kept.variables) v) [
      | inl l ↦ get_or-eq_default (take (max m kept.variables) bindings) Free (omega (arith, length_left)) ∙ sym (free-above (take c cells) m notes v store_here.1.1.1 (omega arith))
      | inr g ↦ get_or-take (max m kept.variables) bindings v Free (omega arith) ∙ h.agrees v ∙ ap (λ t. binding_of t v) e
    ];
  }

  pub view_left : viewed (take (max c kept.cells) cells) (take (max m kept.variables) bindings) notes ≡ without_note kept cells (length bindings) trail
  view_left =
      ap (λ j. record { cells = take (max c kept.cells) cells; variables = j; trail = notes }) length_left
      ∙ ap (without_note kept cells (length bindings)) (sym e)

  pub marked_left : (touched : ℕ) (front : Front) → front ≡ record { cells = 0; variables = 0 } → IsMarked (take c cells) notes touched front → IsMarked (take (max c kept.cells) cells) notes touched front
  marked_left touched front is k =
      rw is (record {
        bindings = subst (λ z. AllTouched z notes touched) (sym (left_more cells c kept.cells))
            (touched-longer (take c cells) (drop c (take (max c kept.cells) cells)) m notes touched store_here.1.1.1 k.bindings);
        within = omega arith;
        whole = record { whole = refl; below = λ v o. absurd o };
      })

  pub compound_left : (k : ℕ) → k ≡ compound_count cells trail → k ≡ compound_count (take (max c kept.cells) cells) notes
  compound_left k is =
      is ∙ ap (compound_count cells) e
      ∙ sym (ap (λ z. compound_count z notes) (left_more cells c kept.cells)
      ∙ compound-longer (take c cells) (drop c (take (max c kept.cells) cells)) m notes store_here.1.1.1)

  pub short_left : (k : ℕ) → AreShort cells k → AreShort (take (max c kept.cells) cells) k
  short_left k s = short_taken cells (max c kept.cells) k (whole_without kept cells (length bindings) c m notes store_here f).whole s

  pub sized_left : (k : Extents) → IsSized (before_note cells (length bindings) trail) k → IsSized (viewed (take (max c kept.cells) cells) (take (max m kept.variables) bindings) notes) k
  sized_left k x =
      let sound : IsSound (before_note cells (length bindings) trail) = subst (λ z. IsSound (before_note cells (length bindings) z)) (sym e) store_here.1.1.1 in
      subst (λ (s : Stored). IsSized s k) (sym view_left)
      (more_sizes (before_note cells (length bindings) trail) (without_note kept cells (length bindings) trail) k
      (without_has_more kept cells (length bindings) trail h.kept) sound x)

-- where nothing is kept, the store at the mark is left
pub nothing_kept : (cells : List Sym) (n : ℕ) (notes : List TrailNote) (j : ℕ) → IsStore cells n notes → without_notes no_front cells n notes j ≡ before_notes cells n notes j
nothing_kept cells n [] j h = refl
nothing_kept cells n (Loaded c m ∷ notes) zero h = refl
nothing_kept cells n (Loaded c m ∷ notes) (suc j) h =
    let a : max c 0 ≡ c = omega arith in
    let b : min n (max m 0) ≡ m = omega (arith, h.1.1.0) in
    without_more no_front cells n (Loaded c m) notes j
    ∙ ap (λ z. without_notes no_front (take z cells) (min n (max m 0)) notes j) a
    ∙ ap (λ z. without_notes no_front (take c cells) z notes j) b
    ∙ nothing_kept (take c cells) m notes j h.1.1.1
    ∙ sym (before_more cells n (Loaded c m) notes j)
nothing_kept cells n (Bound v c ∷ notes) zero h = refl
nothing_kept cells n (Bound v c ∷ notes) (suc j) h =
    without_more no_front cells n (Bound v c) notes j ∙ nothing_kept cells n notes j h.1 ∙ sym (before_more cells n (Bound v c) notes j)

pub undone_nothing : (k : ℕ) (s : Stored) → IsSound s → undone no_front k s ≡ at_mark k s
undone_nothing k s h = nothing_kept s.cells s.variables s.trail (length s.trail - k) h

-- what is left: the store at the mark with more cells, its trail, and the front
more_without : (kept : Front) (cells more : List Sym) (n n' : ℕ) (notes : List TrailNote) (j : ℕ) → IsStore cells n notes → n ≤ n'
    → HasMoreCells (before_notes cells n notes j) (without_notes kept (cells ++ more) n' notes j)
more_without kept cells more n n' [] j h l = record { more = more; cells = refl; variables = l; trail = refl }
more_without kept cells more n n' (Loaded c m ∷ notes) zero h l = record { more = more; cells = refl; variables = l; trail = refl }
more_without kept cells more n n' (Loaded c m ∷ notes) (suc j) h l =
    let left = take (max c kept.cells) (cells ++ more) in
    let count = min n' (max m kept.variables) in
    let is : left ≡ take c cells ++ drop c left = left_more (cells ++ more) c kept.cells ∙ ap (λ z. z ++ drop c left) (take-append-le c cells more h.1.0) in
    let b = without_more kept (cells ++ more) n' (Loaded c m) notes j ∙ ap (λ z. without_notes kept z count notes j) is in
    subst (λ z. HasMoreCells z (without_notes kept (cells ++ more) n' (Loaded c m ∷ notes) (suc j))) (sym (before_more cells n (Loaded c m) notes j))
    (subst (λ z. HasMoreCells (before_notes (take c cells) m notes j) z) (sym b)
    (more_without kept (take c cells) (drop c left) m count notes j h.1.1.1 (omega (arith, h.1.1.0))))
more_without kept cells more n n' (Bound v c ∷ notes) zero h l = record { more = more; cells = refl; variables = l; trail = refl }
more_without kept cells more n n' (Bound v c ∷ notes) (suc j) h l =
    subst (λ z. HasMoreCells z (without_notes kept (cells ++ more) n' (Bound v c ∷ notes) (suc j))) (sym (before_more cells n (Bound v c) notes j))
    (subst (λ z. HasMoreCells (before_notes cells n notes j) z) (sym (without_more kept (cells ++ more) n' (Bound v c) notes j)) (more_without kept cells more n n' notes j h.1 l))

pub undone_more : (kept : Front) (k : ℕ) (s : Stored) → IsSound s → HasMoreCells (at_mark k s) (undone kept k s)
undone_more kept k s h =
    subst (λ z. HasMoreCells (at_mark k s) (without_notes kept z s.variables s.trail (length s.trail - k))) (append-nil s.cells)
    (more_without kept s.cells [] s.variables s.variables s.trail (length s.trail - k) h (omega arith))

front_left : (kept : Front) (cells : List Sym) (n : ℕ) (notes : List TrailNote) (j : ℕ) → take kept.cells (without_notes kept cells n notes j).cells ≡ take kept.cells cells
front_left kept cells n [] j = refl
front_left kept cells n (Loaded c m ∷ notes) zero = refl
front_left kept cells n (Loaded c m ∷ notes) (suc j) =
    ap (λ (s : Stored). take kept.cells s.cells) (without_more kept cells n (Loaded c m) notes j)
    ∙ front_left kept (take (max c kept.cells) cells) (min n (max m kept.variables)) notes j
    ∙ take-take kept.cells (max c kept.cells) cells (omega arith)
front_left kept cells n (Bound v c ∷ notes) zero = refl
front_left kept cells n (Bound v c ∷ notes) (suc j) =
    ap (λ (s : Stored). take kept.cells s.cells) (without_more kept cells n (Bound v c) notes j) ∙ front_left kept cells n notes j

pub undone_front : (kept : Front) (k : ℕ) (s : Stored) → take kept.cells (undone kept k s).cells ≡ take kept.cells s.cells
undone_front kept k s = front_left kept s.cells s.variables s.trail (length s.trail - k)

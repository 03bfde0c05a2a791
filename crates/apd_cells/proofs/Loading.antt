-- The heap after a term was loaded.
use Rattle.std.proofs.Common.{◌≡◌, inl, inr, ℕ, zero, suc, ◌+◌, ◌-◌, ◌<◌, ◌≤◌, List, [], ◌∷◌, ◌++◌, length, get_or, take, replicate, refl, sym, ◌∙◌, ap, subst, arith}
use Rattle.std.specs.List.{flat_map}
use Rattle.std.specs.Prelude.{max}
use Rattle.std.proofs.Math.ListN.{get_or-eq_default}
use Rattle.std.proofs.lemmas.List.{take_at, length-append, get_or_append_left, get_or-append_right}
use Rattle.std.proofs.lemmas.List.Concat.{flat_map-append}
use Rattle.apd_term.specs.declared.term.Sym.{Sym}
use Rattle.apd_term.specs.Term.{Term, spell, variables, read_all, IsTerms, IsAmong}
use Rattle.apd_term.specs.Canonical.{shifted}
use Rattle.apd_term.specs.Spelling.{variable_in}
use Rattle.apd_term.proofs.Spelling.{flat_map-variables}
use Rattle.apd_term.proofs.Among.{IsAmong-append}
use Rattle.apd_cells.proofs.Written.{IsTerms-spell, read_all-append}
use Rattle.apd_cells.specs.declared.heap.TrailNote.{TrailNote}
use Rattle.apd_cells.specs.declared.heap.TrailNote.TheVariants.{Loaded}
use Rattle.apd_cells.specs.declared.heap.Binding.{Binding}
use Rattle.apd_cells.specs.declared.heap.Binding.TheVariants.{Free}
use Rattle.apd_cells.specs.Heap.{IsHeap, HasMore}
use Rattle.apd_cells.specs.Stored.{Stored}
use Rattle.apd_cells.specs.Store.{above, binding_of, HasCells, IsStore, loaded, with_symbols}
use Rattle.apd_cells.proofs.Meaning.{HasCells-of}
use Rattle.apd_cells.proofs.Undoing.{le_or_lt}
use Rattle.apd_cells.proofs.Following.{viewed}

pub above-ge : (n : ℕ) (vs : List ℕ) → n ≤ above n vs
above-ge n [] = omega arith
above-ge n (v ∷ vs) = omega (arith, above-ge (max n (v + 1)) vs)

pub above-gt : (n : ℕ) (vs : List ℕ) (v : ℕ) → IsAmong vs v → v < above n vs
above-gt n [] v m = absurd m
above-gt n (w ∷ vs) v (inl e) = omega (arith, above-ge (max n (w + 1)) vs, e)
above-gt n (w ∷ vs) v (inr m) = above-gt (max n (w + 1)) vs v m

get_or-free : (k j : ℕ) → get_or (replicate k Free) j Free ≡ Free
get_or-free zero j = refl
get_or-free (suc k) zero = refl
get_or-free (suc k) (suc j) = get_or-free k j

-- free variables behind others change no binding
pub get_or-more : (old new : List Binding) (v : ℕ) → HasMore old new → get_or new v Free ≡ get_or old v Free
get_or-more old new v h = ap (λ b. get_or b v Free) h.1 ∙ elim (le_or_lt (length old) v) [
  | inl l ↦
      get_or-append_right old (replicate h.0 Free) (length old) v Free refl l
      ∙ get_or-free h.0 (v - length old) ∙ sym (get_or-eq_default old Free l)
  | inr l ↦ get_or_append_left old (replicate h.0 Free) Free v l
]

pub IsTerms-append : (xs ys : List Sym) → IsTerms xs → IsTerms ys → IsTerms (xs ++ ys)
IsTerms-append xs ys h k =
    ap (flat_map spell) (read_all-append xs ys h) ∙ flat_map-append spell (read_all xs) (read_all ys)
    ∙ ap (λ z. z ++ flat_map spell (read_all ys)) h ∙ ap (λ z. xs ++ z) k

HasCells-behind : (cells xs : List Sym) (n : ℕ) → HasCells cells n → IsTerms xs → HasCells (cells ++ xs) (above n (flat_map variable_in xs))
HasCells-behind cells xs n h w = record {
  whole = IsTerms-append cells xs h.whole w;
  below = λ v o. elim (IsAmong-append (flat_map variable_in cells) (flat_map variable_in xs) v (subst (λ r. IsAmong r v) (flat_map-append variable_in cells xs) o)) [
    | inl i ↦ (let l = h.below v i in omega (arith, above-ge n (flat_map variable_in xs)))
    | inr j ↦ above-gt n (flat_map variable_in xs) v j
  ];
}

-- terms behind the cells, with one note
pub store_behind : (cells xs : List Sym) (n : ℕ) (notes : List TrailNote) → IsStore cells n notes → IsTerms xs
    → IsStore (cells ++ xs) (above n (flat_map variable_in xs)) (Loaded (length cells) n ∷ notes)
store_behind cells xs n notes h w =
    let front : take (length cells) (cells ++ xs) ≡ cells = take_at cells xs (length cells) refl in (
      HasCells-behind cells xs n (HasCells-of cells n notes h) w,
      (omega (arith, length-append cells xs), (above-ge n (flat_map variable_in xs), subst (λ z. IsStore z n notes) (sym front) h)),
    )

pub store_loaded : (cells : List Sym) (n : ℕ) (t : Term) (notes : List TrailNote) → IsStore cells n notes → IsStore (cells ++ spell t) (above n (variables t)) (Loaded (length cells) n ∷ notes)
store_loaded cells n t notes h =
    subst (λ vs. IsStore (cells ++ spell t) (above n vs) (Loaded (length cells) n ∷ notes)) (flat_map-variables t) (store_behind cells (spell t) n notes h (IsTerms-spell t))

pub heap_behind : (cells new xs : List Sym) (bindings bnew : List Binding) (notes trail : List TrailNote)
    → IsHeap cells bindings notes → IsTerms xs → new ≡ cells ++ xs → length bnew ≡ above (length bindings) (flat_map variable_in xs)
    → HasMore bindings bnew → trail ≡ Loaded (length cells) (length bindings) ∷ notes → IsHeap new bnew trail
heap_behind cells new xs bindings bnew notes trail h w e n m i = record {
  kept = rw (e, n, i) (store_behind cells xs (length bindings) notes h.kept w);
  agrees = λ v. get_or-more bindings bnew v m ∙ h.agrees v ∙ ap (λ z. binding_of z v) (sym i);
}

pub heap_loaded : (cells new : List Sym) (bindings bnew : List Binding) (notes trail : List TrailNote) (t : Term) (base : ℕ)
    → IsHeap cells bindings notes → new ≡ cells ++ spell (shifted base t) → length bnew ≡ above (length bindings) (variables (shifted base t))
    → HasMore bindings bnew → trail ≡ Loaded (length cells) (length bindings) ∷ notes → IsHeap new bnew trail
heap_loaded cells new bindings bnew notes trail t base h e n m i =
    heap_behind cells new (spell (shifted base t)) bindings bnew notes trail h (IsTerms-spell (shifted base t)) e
    (n ∙ ap (above (length bindings)) (sym (flat_map-variables (shifted base t)))) m i

pub viewed_behind : (s : Stored) (cells new xs : List Sym) (bindings bnew : List Binding) (notes trail : List TrailNote)
    → viewed cells bindings notes ≡ s → new ≡ cells ++ xs → trail ≡ Loaded (length cells) (length bindings) ∷ notes → viewed new bnew trail ≡ with_symbols s xs (length bnew)
viewed_behind s cells new xs bindings bnew notes trail g e i = (rw (e, i) refl) ∙ ap (λ (y : Stored). with_symbols y xs (length bnew)) g

pub viewed_loaded : (s : Stored) (cells new : List Sym) (bindings bnew : List Binding) (notes trail : List TrailNote) (t : Term) (base : ℕ)
    → viewed cells bindings notes ≡ s → new ≡ cells ++ spell (shifted base t) → length bnew ≡ above (length bindings) (variables (shifted base t))
    → trail ≡ Loaded (length cells) (length bindings) ∷ notes → viewed new bnew trail ≡ loaded s t base
viewed_loaded s cells new bindings bnew notes trail t base g e n i =
    (rw (e, n, i) refl) ∙ ap (λ (y : Stored). loaded y t base) g

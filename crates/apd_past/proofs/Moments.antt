-- A past at a moment is a sound store, and more terms change nothing of it.
use Rattle.std.proofs.Common.{◌≡◌, ◌⊎◌, inl, inr, ℕ, ◌<◌, ◌≤◌, true, false, if◌then◌else◌, Option, Some, None, List, [], ◌∷◌, ◌++◌, length, refl, sym, ◌∙◌, ap, subst, arith}
use Rattle.std.specs.List.{flat_map}
use Rattle.std.proofs.lemmas.Bool.{cases_lt, le-leb, le-ltb, lt-leb, lt-ltb}
use Rattle.std.proofs.lemmas.List.{append-nil}
use Rattle.std.proofs.lemmas.List.Concat.{flat_map-append}
use Rattle.apd_term.specs.declared.term.Sym.{Sym}
use Rattle.apd_term.specs.Term.{IsTerms, IsAmong}
use Rattle.apd_term.specs.Spelling.{variable_in}
use Rattle.apd_term.proofs.Among.{IsAmong-append}
use Rattle.apd_cells.specs.declared.heap.TrailNote.TheVariants.{Bound}
use Rattle.apd_cells.specs.Store.{above, term_at, HasCells, MayBind, IsStore, IsSound}
use Rattle.apd_cells.proofs.Longer.{MayBind-more, term-more}
use Rattle.apd_cells.proofs.Loading.{above-ge, above-gt, IsTerms-append}
use Rattle.apd_past.specs.Done.{Done, Span, is_within, with_variables}
use Rattle.apd_past.specs.History.{History, at_moment, bindings_at, history_of, is_bound, with_terms, IsRight, IsRightSpan}

-- the moment isn't behind that of the end
abbrev pub IsWithin : ℕ → Option ℕ → Type 0
IsWithin m None = Unit {0}
IsWithin m (Some u) = m ≤ u

within_cases : (m : ℕ) (o : Option ℕ) → ((is_within m o ≡ true) × IsWithin m o) ⊎ ((is_within m o ≡ false) × (IsWithin m o → ⊥))
within_cases m None = inl (refl, tt)
within_cases m (Some u) = elim (cases_lt u m) [
  | inl l ↦ inr (lt-leb m u l, λ g. absurd (omega (arith, l, g)))
  | inr g ↦ inl (le-leb m u g, g)
]

-- it was there at the moment
pub record WasBound (m : ℕ) (s : Span) : Type 0 where
  pub made : s.from < m
  pub within : IsWithin m s.until

pub bound_cases : (m : ℕ) (s : Span) → ((is_bound m s ≡ true) × WasBound m s) ⊎ ((is_bound m s ≡ false) × (WasBound m s → ⊥))
bound_cases m s = elim (cases_lt s.from m) [
  | inl l ↦
      let e : is_bound m s ≡ is_within m s.until = ap (λ b. if b then is_within m s.until else false) (lt-ltb s.from m l) in
      elim (within_cases m s.until) [
        | inl w ↦ inl (e ∙ w.0, record { made = l; within = w.1 })
        | inr w ↦ inr (e ∙ w.0, λ h. w.1 h.within)
      ]
  | inr g ↦ inr (ap (λ b. if b then is_within m s.until else false) (le-ltb s.from m g), λ h. absurd (omega (arith, h.made, g)))
]

pub bound_is : (m : ℕ) (s : Span) → WasBound m s → is_bound m s ≡ true
bound_is m s w = elim (bound_cases m s) [
  | inl h ↦ h.0
  | inr h ↦ absurd (h.1 w)
]

pub was_bound : (m : ℕ) (s : Span) → is_bound m s ≡ true → WasBound m s
was_bound m s e = elim (bound_cases m s) [
  | inl h ↦ h.1
  | inr h ↦ (let f : true ≡ false = sym e ∙ h.0 in absurd (cc))
]

-- the bindings at the moment have it, or not
pub at_bound : (m : ℕ) (s : Span) (ss : List Span) → is_bound m s ≡ true → bindings_at m (s ∷ ss) ≡ Bound s.variable s.cell ∷ bindings_at m ss
at_bound m s ss e = ap (λ b. if b then Bound s.variable s.cell ∷ bindings_at m ss else bindings_at m ss) e

pub at_other : (m : ℕ) (s : Span) (ss : List Span) → is_bound m s ≡ false → bindings_at m (s ∷ ss) ≡ bindings_at m ss
at_other m s ss e = ap (λ b. if b then Bound s.variable s.cell ∷ bindings_at m ss else bindings_at m ss) e

-- bindings that were right are a store's, at each moment
right_span : (cells : List Sym) (n m : ℕ) (s : Span) (ss : List Span) → IsRightSpan cells n s ss → is_bound m s ≡ true → MayBind cells n (bindings_at m ss) s.variable s.cell
right_span cells n m s ss h e = subst (λ z. MayBind cells n z s.variable s.cell) (sym (h.stays m e)) h.may

pub right_sound : (cells : List Sym) (n m : ℕ) (ss : List Span) → IsRight cells n ss → IsStore cells n (bindings_at m ss)
right_sound cells n m [] h = h
right_sound cells n m (s ∷ ss) h = elim (bound_cases m s) [
  | inl b ↦ subst (IsStore cells n) (sym (at_bound m s ss b.0)) (right_span cells n m s ss h.0 b.0, right_sound cells n m ss h.1)
  | inr b ↦ subst (IsStore cells n) (sym (at_other m s ss b.0)) (right_sound cells n m ss h.1)
]

pub sound_at : (h : History) (m : ℕ) → IsRight h.cells h.variables h.spans → IsSound (at_moment m h)
sound_at h m r = right_sound h.cells h.variables m h.spans r

-- more cells
pub right_more : (cells more : List Sym) (n n' : ℕ) (ss : List Span) → HasCells (cells ++ more) n' → n ≤ n' → IsRight cells n ss → IsRight (cells ++ more) n' ss
right_more cells more n n' [] w l h = w
right_more cells more n n' (s ∷ ss) w l h = (
  record {
    may = MayBind-more cells more n n' (bindings_at s.from ss) s.variable s.cell (right_sound cells n s.from ss h.1) l h.0.may;
    stays = h.0.stays;
  },
  right_more cells more n n' ss w l h.1,
)

pub right_cells : (cells : List Sym) (n : ℕ) (ss : List Span) → IsRight cells n ss → HasCells cells n
right_cells cells n [] h = h
right_cells cells n (s ∷ ss) h = right_cells cells n ss h.1

cells_more : (cells more : List Sym) (n : ℕ) → HasCells cells n → IsTerms more → HasCells (cells ++ more) (above n (flat_map variable_in more))
cells_more cells more n h t = record {
  whole = IsTerms-append cells more h.whole t;
  below = λ v o. elim (IsAmong-append (flat_map variable_in cells) (flat_map variable_in more) v (subst (λ r. IsAmong r v) (flat_map-append variable_in cells more) o)) [
    | inl i ↦ (let l = h.below v i in omega (arith, above-ge n (flat_map variable_in more)))
    | inr j ↦ above-gt n (flat_map variable_in more) v j
  ];
}

pub right_loaded : (cells more new : List Sym) (n n' : ℕ) (ss : List Span) → IsRight cells n ss → IsTerms more → new ≡ cells ++ more
    → n' ≡ above n (flat_map variable_in more) → IsRight new n' ss
right_loaded cells more new n n' ss h t e f =
    rw (e, f) (right_more cells more n (above n (flat_map variable_in more)) ss (cells_more cells more n (right_cells cells n ss h) t)
    (above-ge n (flat_map variable_in more)) h)

pub loaded_is : (h : History) (cells new more : List Sym) (d d' : Done) → history_of cells d ≡ h → new ≡ cells ++ more
    → d' ≡ with_variables d (flat_map variable_in more) → history_of new d' ≡ with_terms h more
loaded_is h cells new more d d' g e f = (rw (e, f) refl) ∙ ap (λ (x : History). with_terms x more) g

-- more variables
pub right_wider : (cells : List Sym) (n n' : ℕ) (ss : List Span) → IsRight cells n ss → n ≤ n' → IsRight cells n' ss
right_wider cells n n' ss h l =
    let old = right_cells cells n ss h in
    let same : cells ++ [] ≡ cells = append-nil cells in
    let whole : HasCells cells n' = record { whole = old.whole; below = λ v o. omega (arith, old.below v o) } in
    subst (λ z. IsRight z n' ss) same (right_more cells [] n n' ss (subst (λ z. HasCells z n') (sym same) whole) l h)

pub term_kept : (h : History) (more : List Sym) (m c : ℕ) → IsRight h.cells h.variables h.spans → c < length h.cells
    → term_at (at_moment m (with_terms h more)) c ≡ term_at (at_moment m h) c
term_kept h more m c r l = term-more h.cells more h.variables (bindings_at m h.spans) c (sound_at h m r) l

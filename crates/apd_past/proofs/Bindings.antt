-- The bindings at moments, what a variable is bound to, and what one more binding makes of them.
use Rattle.std.proofs.Common.{◌≡◌, ◌≢◌, inl, inr, ℕ, ◌+◌, ◌<◌, ◌≤◌, true, if◌then◌else◌, Option, Some, None, List, [], ◌∷◌, refl, sym, ◌∙◌, ap, subst, arith}
use Rattle.std.specs.Prelude.{MatchOption}
use Rattle.std.proofs.lemmas.Bool.{cases_eq, cases_lt, le-leb, lt-leb}
use Rattle.apd_term.specs.declared.term.Sym.{Sym}
use Rattle.apd_cells.specs.declared.heap.TrailNote.{TrailNote}
use Rattle.apd_cells.specs.declared.heap.TrailNote.TheVariants.{Bound}
use Rattle.apd_cells.specs.declared.heap.Binding.{Binding}
use Rattle.apd_cells.specs.declared.heap.Binding.TheVariants.{Free, At}
use Rattle.apd_cells.specs.Store.{binding_of, MayBind}
use Rattle.apd_cells.proofs.Meaning.{binding-same, binding-other}
use Rattle.apd_past.specs.Done.{Done, Span, cell_at, is_within, to_of, with_span}
use Rattle.apd_past.specs.History.{bindings_at, bindings_of, is_bound, AreSpans, ComeBefore, HasDoneMore, IsPast, IsRight}
use Rattle.apd_past.proofs.Moments.{IsWithin, WasBound, at_bound, at_other, bound_cases, bound_is, was_bound}
use Rattle.apd_past.proofs.Telling.{to_here, to_later, to_other}

-- the same bindings at two moments
same_one : (m k : ℕ) (s : Span) (ss : List Span) → (WasBound m s → WasBound k s) → (WasBound k s → WasBound m s) → bindings_at m ss ≡ bindings_at k ss
    → bindings_at m (s ∷ ss) ≡ bindings_at k (s ∷ ss)
same_one m k s ss f g e = elim (bound_cases m s) [
  | inl b ↦ at_bound m s ss b.0 ∙ ap (λ z. Bound s.variable s.cell ∷ z) e ∙ sym (at_bound k s ss (bound_is k s (f b.1)))
  | inr b ↦ elim (bound_cases k s) [
    | inl c ↦ absurd (b.1 (g c.1))
    | inr c ↦ at_other m s ss b.0 ∙ e ∙ sym (at_other k s ss c.0)
  ]
]

-- nothing is done after the present moment
within_past : (m k : ℕ) (o : Option ℕ) → IsPast m o → m ≤ k → IsWithin k o → IsWithin m o
within_past m k None p l h = tt
within_past m k (Some u) p l h = omega (arith, p, l, h)

within_late : (m k : ℕ) (o : Option ℕ) → IsPast m o → m ≤ k → IsWithin m o → IsWithin k o
within_late m k None p l h = tt
within_late m k (Some u) p l h = absurd (omega (arith, p, h))

pub quiet : (m k : ℕ) (ss : List Span) → AreSpans m ss → m ≤ k → bindings_at k ss ≡ bindings_at m ss
quiet m k [] h l = refl
quiet m k (s ∷ ss) h l =
    same_one k m s ss
    (λ w. record { made = h.0.made; within = within_past m k s.until h.0.ended l w.within })
    (λ w. record { made = omega (arith, w.made, l); within = within_late m k s.until h.0.ended l w.within })
    (quiet m k ss h.1 l)

-- a variable that was free at a moment after all of these were made is free later too
within_earlier : (m k : ℕ) (o : Option ℕ) → m ≤ k → IsWithin k o → IsWithin m o
within_earlier m k None l h = tt
within_earlier m k (Some u) l h = omega (arith, l, h)

free_same : (w c : ℕ) (notes : List TrailNote) (v : ℕ) → binding_of (Bound w c ∷ notes) v ≡ Free → (w ≢ v) × (binding_of notes v ≡ Free)
free_same w c notes v f = elim (cases_eq w v) [
  | inl e ↦ (let b = binding-same w c notes v e in absurd (cc))
  | inr n ↦ (n, sym (binding-other w c notes v n) ∙ f)
]

pub free_later : (m k : ℕ) (ss : List Span) (v : ℕ) → ComeBefore m ss → m ≤ k → binding_of (bindings_at m ss) v ≡ Free → binding_of (bindings_at k ss) v ≡ Free
free_later m k [] v h l f = f
free_later m k (s ∷ ss) v h l f = elim (bound_cases m s) [
  | inl b ↦
      let p = free_same s.variable s.cell (bindings_at m ss) v (ap (λ z. binding_of z v) (sym (at_bound m s ss b.0)) ∙ f) in
      let rest = free_later m k ss v h.1 l p.1 in
      elim (bound_cases k s) [
        | inl c ↦ ap (λ z. binding_of z v) (at_bound k s ss c.0) ∙ binding-other s.variable s.cell (bindings_at k ss) v p.0 ∙ rest
        | inr c ↦ ap (λ z. binding_of z v) (at_other k s ss c.0) ∙ rest
      ]
  | inr b ↦ elim (bound_cases k s) [
    | inl c ↦ absurd (b.1 (record { made = h.0; within = within_earlier m k s.until l c.1.within }))
    | inr c ↦
        ap (λ z. binding_of z v) (at_other k s ss c.0)
        ∙ free_later m k ss v h.1 l (ap (λ z. binding_of z v) (sym (at_other m s ss b.0)) ∙ f)
  ]
]

-- what a variable is bound to, as a binding
abbrev pub binding_to : Option ℕ → Binding
binding_to None = Free
binding_to (Some c) = At c

says_cell : (m : ℕ) (s : Span) → is_bound m s ≡ true → cell_at m s ≡ Some s.cell
says_cell m s e = by s.until (was_bound m s e).within
  where
    by : (o : Option ℕ) → IsWithin m o → (if is_within m o then Some s.cell else None) ≡ Some s.cell
    by None w = refl
    by (Some u) w = ap (λ b. if b then Some s.cell else None) (le-leb m u w)

says_none : (m : ℕ) (s : Span) → s.from < m → (WasBound m s → ⊥) → cell_at m s ≡ None
says_none m s l n = by s.until (λ w. n (record { made = l; within = w }))
  where
    by : (o : Option ℕ) → (IsWithin m o → ⊥) → (if is_within m o then Some s.cell else None) ≡ None
    by None n = absurd (n tt)
    by (Some u) n = elim (cases_lt u m) [
      | inl l ↦ ap (λ b. if b then Some s.cell else None) (lt-leb m u l)
      | inr g ↦ absurd (n g)
    ]

pub binding_at : (k m : ℕ) (ss : List Span) (v : ℕ) → AreSpans k ss → binding_of (bindings_at m ss) v ≡ binding_to (to_of m ss v)
binding_at k m [] v h = refl
binding_at k m (s ∷ ss) v h = elim (cases_eq s.variable v) [
  | inl e ↦ elim (bound_cases m s) [
    | inl b ↦
        ap (λ z. binding_of z v) (at_bound m s ss b.0) ∙ binding-same s.variable s.cell (bindings_at m ss) v e
        ∙ ap binding_to (sym (to_here m s ss v e b.1.made ∙ says_cell m s b.0))
    | inr b ↦ ap (λ z. binding_of z v) (at_other m s ss b.0) ∙ elim (cases_lt s.from m) [
      | inl l ↦
          free_later s.from m ss v h.0.after (omega (arith, l)) (subst (λ w. binding_of (bindings_at s.from ss) w ≡ Free) e h.0.free)
          ∙ ap binding_to (sym (to_here m s ss v e l ∙ says_none m s l b.1))
      | inr g ↦ binding_at k m ss v h.1 ∙ ap binding_to (sym (to_later m s ss v e g))
    ]
  ]
  | inr n ↦ elim (bound_cases m s) [
    | inl b ↦
        ap (λ z. binding_of z v) (at_bound m s ss b.0) ∙ binding-other s.variable s.cell (bindings_at m ss) v n
        ∙ binding_at k m ss v h.1 ∙ ap binding_to (sym (to_other m s ss v n))
    | inr b ↦ ap (λ z. binding_of z v) (at_other m s ss b.0) ∙ binding_at k m ss v h.1 ∙ ap binding_to (sym (to_other m s ss v n))
  ]
]

says : (o : Option ℕ) (notes : List TrailNote) (v : ℕ) → binding_of notes v ≡ binding_to o → MatchOption o (binding_of notes v ≡ Free) (λ c. binding_of notes v ≡ At c)
says None notes v e = e
says (Some c) notes v e = e

pub bound_says : (o : Option ℕ) (k m : ℕ) (ss : List Span) (v : ℕ) → AreSpans k ss → o ≡ to_of m ss v
    → MatchOption o (binding_of (bindings_at m ss) v ≡ Free) (λ c. binding_of (bindings_at m ss) v ≡ At c)
bound_says o k m ss v h e = says o (bindings_at m ss) v (binding_at k m ss v h ∙ ap binding_to (sym e))

-- one more binding
pub past_later : (m : ℕ) (o : Option ℕ) → IsPast m o → IsPast (m + 1) o
past_later m None h = tt
past_later m (Some u) h = omega (arith, h)

pub are_later : (m : ℕ) (ss : List Span) → AreSpans m ss → AreSpans (m + 1) ss
are_later m [] h = tt
are_later m (s ∷ ss) h = (record { made = omega (arith, h.0.made); ended = past_later m s.until h.0.ended; after = h.0.after; free = h.0.free }, are_later m ss h.1)

come_before : (m : ℕ) (ss : List Span) → AreSpans m ss → ComeBefore m ss
come_before m [] h = tt
come_before m (s ∷ ss) h = (h.0.made, come_before m ss h.1)

module _ (d : Done) (h : AreSpans d.moments d.spans) (v c : ℕ) where
  pub span_more : binding_of (bindings_of d) v ≡ Free → AreSpans (d.moments + 1) (with_span d v c).spans
  span_more f = (record { made = omega arith; ended = tt; after = come_before d.moments d.spans h; free = f }, are_later d.moments d.spans h)

  pub bindings_more : bindings_of (with_span d v c) ≡ Bound v c ∷ bindings_of d
  bindings_more =
      at_bound (d.moments + 1) (record { variable = v; cell = c; from = d.moments; until = None }) d.spans
      (bound_is (d.moments + 1) (record { variable = v; cell = c; from = d.moments; until = None }) (record { made = omega arith; within = tt }))
      ∙ ap (λ z. Bound v c ∷ z) (quiet d.moments (d.moments + 1) d.spans h (omega arith))

  pub right_bound : (cells : List Sym) (n : ℕ) → MayBind cells n (bindings_of d) v c → IsRight cells n d.spans → IsRight cells n (with_span d v c).spans
  right_bound cells n m r = (
    record {
      may = m;
      stays = λ k e. (let w = was_bound k (record { variable = v; cell = c; from = d.moments; until = None }) e in quiet d.moments k d.spans h (omega (arith, w.made)));
    },
    r,
  )

pub bound_more : (d : Done) (v c : ℕ) → HasDoneMore d (with_span d v c)
bound_more d v c = record {
  variables = refl;
  moments = omega arith;
  earlier = λ m l. elim (bound_cases m (record { variable = v; cell = c; from = d.moments; until = None })) [
    | inl b ↦ absurd (omega (arith, b.1.made, l))
    | inr b ↦ at_other m (record { variable = v; cell = c; from = d.moments; until = None }) d.spans b.0
  ];
}

pub done_same : (d : Done) → HasDoneMore d d
done_same d = record { variables = refl; moments = omega arith; earlier = λ m l. refl }

pub done_more : (d e f : Done) → HasDoneMore d e → HasDoneMore e f → HasDoneMore d f
done_more d e f h k = record {
  variables = k.variables ∙ h.variables;
  moments = omega (arith, h.moments, k.moments);
  earlier = λ m l. k.earlier m (omega (arith, l, h.moments)) ∙ h.earlier m l;
}

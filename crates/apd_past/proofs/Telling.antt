-- What bindings that are kept in the order in which they were made tell, the newest first.
use Rattle.std.proofs.Common.{◌≡◌, ◌≢◌, inl, inr, ℕ, zero, suc, ◌+◌, ◌<◌, ◌≤◌, true, false, ◌==◌, if◌then◌else◌, Option, Some, None, List, [], ◌∷◌, ◌++◌, length, get_or, take, reverse, refl, sym, ◌∙◌, ap, subst, set, arith}
use Rattle.std.proofs.Math.Seq.{take-length}
use Rattle.std.specs.Prelude.{ltb}
use Rattle.std.proofs.lemmas.Bool.{cases_eq, cases_lt, le-ltb, lt-ltb}
use Rattle.std.proofs.lemmas.Bool.Decides.{nat_tests}
use Rattle.std.proofs.lemmas.List.{get_or-set_same, get_or-set_other, length-set, reverse-append, take_more, take-set-le}
use Rattle.apd_past.specs.Done.{Span, cell_at, ended_on, to_of, with_end}
use Rattle.apd_past.specs.Linked.{ended_at, no_kept, span_of, spans_of, variable_by, variables_of, with_until, IsNewest, IsNewestAt, IsOn}
use Rattle.apd_past.specs.declared.spans.KeptSpan.{KeptSpan}
use Rattle.apd_past.proofs.Chains.{length-spans, length-variables, span_at, spans_more, spans_set}

abbrev pub no_span : Span
no_span = record { variable = 0; cell = 0; from = 0; until = None }

-- tests of variables
own : (a b : ℕ) → a ≡ b → (a == b) ≡ true
own a b e = grind (arith, nat_tests)

other : (a b : ℕ) → a ≢ b → (a == b) ≡ false
other a b n = grind (arith, nat_tests)

-- the newest one tells; one of a later moment doesn't, nor does one of another variable
pub to_here : (m : ℕ) (s : Span) (ss : List Span) (v : ℕ) → s.variable ≡ v → s.from < m → to_of m (s ∷ ss) v ≡ cell_at m s
to_here m s ss v e l =
    ap (λ b. if b then (if ltb s.from m then cell_at m s else to_of m ss v) else to_of m ss v) (own s.variable v e)
    ∙ ap (λ b. if b then cell_at m s else to_of m ss v) (lt-ltb s.from m l)

pub to_later : (m : ℕ) (s : Span) (ss : List Span) (v : ℕ) → s.variable ≡ v → m ≤ s.from → to_of m (s ∷ ss) v ≡ to_of m ss v
to_later m s ss v e l =
    ap (λ b. if b then (if ltb s.from m then cell_at m s else to_of m ss v) else to_of m ss v) (own s.variable v e)
    ∙ ap (λ b. if b then cell_at m s else to_of m ss v) (le-ltb s.from m l)

pub to_other : (m : ℕ) (s : Span) (ss : List Span) (v : ℕ) → s.variable ≢ v → to_of m (s ∷ ss) v ≡ to_of m ss v
to_other m s ss v n = ap (λ b. if b then (if ltb s.from m then cell_at m s else to_of m ss v) else to_of m ss v) (other s.variable v n)

pub ended_here : (m v : ℕ) (s : Span) (ss : List Span) → s.variable ≡ v → ended_on m v (s ∷ ss) ≡ with_end m s ∷ ss
ended_here m v s ss e = ap (λ b. if b then with_end m s ∷ ss else s ∷ ended_on m v ss) (own s.variable v e)

pub ended_other : (m v : ℕ) (s : Span) (ss : List Span) → s.variable ≢ v → ended_on m v (s ∷ ss) ≡ s ∷ ended_on m v ss
ended_other m v s ss n = ap (λ b. if b then with_end m s ∷ ss else s ∷ ended_on m v ss) (other s.variable v n)

-- the newest of the first ones
reverse_more : (xs : List Span) (k : ℕ) → k < length xs → reverse (take (suc k) xs) ≡ get_or xs k no_span ∷ reverse (take k xs)
reverse_more xs k l =
    let j : suc k ≡ k + 1 = omega arith in
    ap (λ z. reverse (take z xs)) j ∙ ap reverse (take_more xs k no_span l) ∙ reverse-append (take k xs) (get_or xs k no_span ∷ [])

-- of the first k ones, the newest of the variable that was made before the moment
abbrev pub IsNewestOf : List Span → ℕ → ℕ → ℕ → Option ℕ → Type 0
IsNewestOf spans v m k None = (i : ℕ) → i < k → (get_or spans i no_span).variable ≡ v → m ≤ (get_or spans i no_span).from
IsNewestOf spans v m k (Some n) =
    (n < k) × ((get_or spans n no_span).variable ≡ v) × ((get_or spans n no_span).from < m)
    × ((i : ℕ) → n < i → i < k → (get_or spans i no_span).variable ≡ v → m ≤ (get_or spans i no_span).from)

-- what the binding at a place says
abbrev pub said_at : List Span → ℕ → Option ℕ → Option ℕ
said_at spans m None = None
said_at spans m (Some n) = cell_at m (get_or spans n no_span)

module _ (spans : List Span) (v m : ℕ) where
  fewer : (k : ℕ) (o : Option ℕ) → ((get_or spans k no_span).variable ≡ v → m ≤ (get_or spans k no_span).from) → IsNewestOf spans v m (suc k) o → IsNewestOf spans v m k o
  fewer k None f h = λ i l e. h i (omega (arith, l)) e
  fewer k (Some n) f h = elim (cases_eq n k) [
    | inl q ↦
        let late = f (subst (λ z. (get_or spans z no_span).variable ≡ v) q h.1) in
        let early : (get_or spans k no_span).from < m = subst (λ z. (get_or spans z no_span).from < m) q h.2 in
        absurd (omega (arith, late, early))
    | inr q ↦ (omega (arith, h.0, q), h.1, h.2, λ i g s e. h.3 i g (omega (arith, s)) e)
  ]

  is_it : (k : ℕ) (o : Option ℕ) → (get_or spans k no_span).variable ≡ v → (get_or spans k no_span).from < m → IsNewestOf spans v m (suc k) o → o ≡ Some k
  is_it k None e l h = (let late = h k (omega arith) e in absurd (omega (arith, late, l)))
  is_it k (Some n) e l h = elim (cases_eq n k) [
    | inl q ↦ ap Some q
    | inr q ↦ (let late = h.3 k (omega (arith, h.0, q)) (omega arith) e in absurd (omega (arith, late, l)))
  ]

  newest_to : (k : ℕ) (o : Option ℕ) → k ≤ length spans → IsNewestOf spans v m k o → to_of m (reverse (take k spans)) v ≡ said_at spans m o
  newest_to zero None l h = refl
  newest_to zero (Some n) l h = absurd (omega (arith, h.0))
  newest_to (suc k) o l h =
      let s = get_or spans k no_span in
      let rest = reverse (take k spans) in
      let there : k < length spans = omega arith in
      let same : k ≤ length spans = omega arith in
      ap (λ z. to_of m z v) (reverse_more spans k there) ∙ elim (cases_eq s.variable v) [
        | inl e ↦ elim (cases_lt s.from m) [
          | inl q ↦ to_here m s rest v e q ∙ ap (said_at spans m) (sym (is_it k o e q h))
          | inr q ↦ to_later m s rest v e q ∙ newest_to k o same (fewer k o (λ _. q) h)
        ]
        | inr n ↦ to_other m s rest v n ∙ newest_to k o same (fewer k o (λ e. absurd (n e)) h)
      ]

  -- the newest of the variable ends
  module _ (x : Span) (at : ℕ) (is : x ≡ with_end m (get_or spans at no_span)) (on : (get_or spans at no_span).variable ≡ v) (inside : at < length spans) where
    reverse_set : (k : ℕ) → k < length spans → at < k → reverse (take (suc k) (set spans at x)) ≡ get_or spans k no_span ∷ reverse (take k (set spans at x))
    reverse_set k l g =
        reverse_more (set spans at x) k (omega (arith, l, length-set spans at x))
        ∙ ap (λ s. s ∷ reverse (take k (set spans at x))) (get_or-set_other spans at k x no_span (λ q. absurd (omega (arith, q, g))))

    ended_to : (k : ℕ) → k ≤ length spans → at < k → ((i : ℕ) → at < i → i < k → (get_or spans i no_span).variable ≢ v)
        → ended_on m v (reverse (take k spans)) ≡ reverse (take k (set spans at x))
    ended_to zero l g h = absurd (omega arith)
    ended_to (suc k) l g h =
        let s = get_or spans k no_span in
        let there : k < length spans = omega arith in
        ap (ended_on m v) (reverse_more spans k there) ∙ elim (cases_eq at k) [
          | inl q ↦
              let mine : s.variable ≡ v = subst (λ z. (get_or spans z no_span).variable ≡ v) q on in
              ended_here m v s (reverse (take k spans)) mine
              ∙ ap (λ z. z ∷ reverse (take k spans)) (ap (λ z. with_end m (get_or spans z no_span)) (sym q) ∙ sym is)
              ∙ ap (λ z. x ∷ reverse z) (sym (take-set-le k spans at x (omega (arith, q))))
              ∙ ap (λ z. z ∷ reverse (take k (set spans at x))) (sym (ap (λ z. get_or (set spans at x) z no_span) (sym q) ∙ get_or-set_same spans at x no_span inside))
              ∙ sym (reverse_more (set spans at x) k (omega (arith, there, length-set spans at x)))
          | inr o ↦
              let above : at < k = omega (arith, g, o) in
              ended_other m v s (reverse (take k spans)) (h k above (omega arith))
              ∙ ap (λ z. s ∷ z) (ended_to k (omega arith) above (λ i a b. h i a (omega (arith, b))))
              ∙ sym (reverse_set k there above)
        ]

  ended_none : (k : ℕ) → k ≤ length spans → ((i : ℕ) → i < k → (get_or spans i no_span).variable ≢ v) → ended_on m v (reverse (take k spans)) ≡ reverse (take k spans)
  ended_none zero l h = refl
  ended_none (suc k) l h =
      let s = get_or spans k no_span in
      let there : k < length spans = omega arith in
      ap (ended_on m v) (reverse_more spans k there)
      ∙ ended_other m v s (reverse (take k spans)) (h k (omega arith))
      ∙ ap (λ z. s ∷ z) (ended_none k (omega arith) (λ i b. h i (omega (arith, b))))
      ∙ sym (reverse_more spans k there)

-- of those that are kept
module _ (kept : List KeptSpan) (v m : ℕ) where
  here : (i : ℕ) → i < length kept → get_or (spans_of kept) i no_span ≡ span_of (get_or (variables_of kept) i 0) (get_or kept i no_kept)
  here i l = span_at kept i no_span l

  from_here : (i : ℕ) → i < length kept → (get_or (spans_of kept) i no_span).from ≡ (get_or kept i no_kept).from
  from_here i l = ap (λ (s : Span). s.from) (here i l)

  on_here : (i : ℕ) → i < length kept → (get_or (spans_of kept) i no_span).variable ≡ v → IsOn (variables_of kept) v i
  on_here i l e = record { there = omega (arith, l, length-variables kept); is = sym (ap (λ (s : Span). s.variable) (here i l)) ∙ e }

  of_here : (i : ℕ) → IsOn (variables_of kept) v i → (get_or (spans_of kept) i no_span).variable ≡ v
  of_here i on = ap (λ (s : Span). s.variable) (here i (omega (arith, on.there, length-variables kept))) ∙ on.is

  newest_of : (o : Option ℕ) → IsNewestAt kept v m o → IsNewestOf (spans_of kept) v m (length (spans_of kept)) o
  newest_of None h = λ i l e.
      (let b : i < length kept = omega (arith, l, length-spans kept) in
      omega (arith, from_here i b, h i (on_here i b e)))
  newest_of (Some n) h =
      let b : n < length kept = omega (arith, h.0.there, length-variables kept) in (
        omega (arith, b, length-spans kept),
        of_here n h.0,
        omega (arith, from_here n b, h.1),
        λ i g l e. (let c : i < length kept = omega (arith, l, length-spans kept) in omega (arith, from_here i c, h.2 i g (on_here i c e))),
      )

  told : (o : Option ℕ) → IsNewestAt kept v m o → said_at (spans_of kept) m o ≡ to_of m (reverse (spans_of kept)) v
  told o h =
      sym (ap (λ z. to_of m (reverse z) v) (sym (take-length (spans_of kept))) ∙ newest_to (spans_of kept) v m (length (spans_of kept)) o (omega arith) (newest_of o h))

  pub told_none : IsNewestAt kept v m None → None ≡ to_of m (reverse (spans_of kept)) v
  told_none h = told None h

  pub told_cell : (n : ℕ) (k : KeptSpan) → IsNewestAt kept v m (Some n) → k ≡ get_or kept n no_kept → cell_at m (span_of 0 k) ≡ to_of m (reverse (spans_of kept)) v
  told_cell n k h e =
      let b : n < length kept = omega (arith, h.0.there, length-variables kept) in
      ap (λ z. cell_at m (span_of 0 z)) e ∙ sym (ap (cell_at m) (here n b)) ∙ told (Some n) h

  -- the newest one ends
  pub ended_kept : (at : ℕ) (x : Span) → IsNewest (variables_of kept) v (length kept) (Some at) → x ≡ with_end m (get_or (spans_of kept) at no_span)
      → reverse (set (spans_of kept) at x) ≡ ended_on m v (reverse (spans_of kept))
  ended_kept at x h e =
      let ss = spans_of kept in
      let n = length ss in
      let count : n ≡ length kept = length-spans kept in
      let whole : take n (set ss at x) ≡ set ss at x = ap (λ z. take z (set ss at x)) (sym (length-set ss at x)) ∙ take-length (set ss at x) in
      sym (ap (λ z. ended_on m v (reverse z)) (sym (take-length ss))
      ∙ ended_to ss v m x at e (of_here at h.1) (omega (arith, h.0, count)) n (omega arith) (omega (arith, h.0, count))
      (λ i g l is. h.2 i g (omega (arith, l, count)) (on_here i (omega (arith, l, count)) is))
      ∙ ap reverse whole)

  pub ended_nothing : IsNewest (variables_of kept) v (length kept) None → reverse (spans_of kept) ≡ ended_on m v (reverse (spans_of kept))
  ended_nothing h =
      let ss = spans_of kept in
      let n = length ss in
      let count : n ≡ length kept = length-spans kept in
      sym (ap (λ z. ended_on m v (reverse z)) (sym (take-length ss))
      ∙ ended_none ss v m n (omega arith) (λ i l is. h i (omega (arith, l, count)) (on_here i (omega (arith, l, count)) is))
      ∙ ap reverse (take-length ss))

pub freed_view : (kept : List KeptSpan) (v m : ℕ) (o : Option ℕ) → IsNewest (variables_of kept) v (length kept) o
    → reverse (spans_of (ended_at o m kept)) ≡ ended_on m v (reverse (spans_of kept))
freed_view kept v m None n = ended_nothing kept v m n
freed_view kept v m (Some i) n =
    let k = get_or kept i no_kept in
    let w = get_or (variables_of kept) i 0 in
    ap reverse (spans_set kept i (with_until m k) n.0 refl refl)
    ∙ ended_kept kept v m i (span_of w (with_until m k)) n (sym (ap (with_end m) (span_at kept i no_span n.0)))

-- one more binding
pub bound_view : (kept : List KeptSpan) (x : KeptSpan) (v : ℕ) (s : Span) → variable_by x.jump x.way (variables_of kept) ≡ v → span_of v x ≡ s
    → reverse (spans_of (kept ++ x ∷ [])) ≡ s ∷ reverse (spans_of kept)
bound_view kept x v s e f =
    ap reverse (spans_more kept x ∙ ap (λ z. spans_of kept ++ span_of z x ∷ []) e ∙ ap (λ z. spans_of kept ++ z ∷ []) f)
    ∙ reverse-append (spans_of kept) (s ∷ [])

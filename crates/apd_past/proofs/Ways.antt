-- The ways from bindings to earlier ones of their variables, and the newest one that was made before a moment.
use Rattle.std.proofs.Common.{◌≡◌, ◌≢◌, inl, inr, ℕ, ◌+◌, ◌<◌, ◌≤◌, Option, Some, None, List, [], ◌∷◌, ◌++◌, length, get_or, refl, sym, ◌∙◌, ap, subst, set, arith}
use Rattle.std.proofs.Math.Seq.{get_or-append_seam}
use Rattle.std.proofs.lemmas.Bool.{cases_eq, cases_lt}
use Rattle.std.proofs.lemmas.List.{get_or_append_left, length-append, length-set, get_or-set_same, get_or-set_other}
use Rattle.apd_cells.proofs.Following.{read_at}
use Rattle.apd_past.specs.Linked.{before_by, before_of, ended_at, no_kept, variable_by, variables_of, with_until, IsOn, IsNewest, IsEarlier, HasWays, HaveWays, AreLinked, GoesBack}
use Rattle.apd_past.specs.declared.spans.KeptSpan.{KeptSpan}
use Rattle.apd_past.proofs.Chains.{length-variables, variables_more, variables_set}

-- what is in front stays there
pub on_more : (xs ys : List ℕ) (v i : ℕ) → IsOn xs v i → IsOn (xs ++ ys) v i
on_more xs ys v i h = record {
  there = omega (arith, h.there, length-append xs ys);
  is = get_or_append_left xs ys 0 i h.there ∙ h.is;
}

pub on_front : (xs ys : List ℕ) (v i : ℕ) → i < length xs → IsOn (xs ++ ys) v i → IsOn xs v i
on_front xs ys v i l h = record { there = l; is = sym (get_or_append_left xs ys 0 i l) ∙ h.is }

pub on_last : (xs : List ℕ) (w v i : ℕ) → i ≡ length xs → IsOn (xs ++ w ∷ []) v i → w ≡ v
on_last xs w v i e h = sym (get_or-append_seam xs w [] 0) ∙ ap (λ j. get_or (xs ++ w ∷ []) j 0) (sym e) ∙ h.is

pub is_last : (xs : List ℕ) (w v : ℕ) → w ≡ v → IsOn (xs ++ w ∷ []) v (length xs)
is_last xs w v e = record {
  there = omega (arith, length-append xs (w ∷ []));
  is = get_or-append_seam xs w [] 0 ∙ e;
}

pub newest_front : (xs ys : List ℕ) (v k : ℕ) (o : Option ℕ) → k ≤ length xs → IsNewest xs v k o → IsNewest (xs ++ ys) v k o
newest_front xs ys v k None l h = λ i s on. h i s (on_front xs ys v i (omega arith) on)
newest_front xs ys v k (Some n) l h = (h.0, on_more xs ys v n h.1, λ i g s on. h.2 i g s (on_front xs ys v i (omega arith) on))

pub earlier_front : (xs ys : List ℕ) (v k : ℕ) (o : Option ℕ) → IsEarlier xs v k o → IsEarlier (xs ++ ys) v k o
earlier_front xs ys v k None h = tt
earlier_front xs ys v k (Some n) h = (h.0, on_more xs ys v n h.1)

-- a binding of another variable changes nothing
pub newest_other : (xs : List ℕ) (w v k : ℕ) (o : Option ℕ) → k ≡ length xs → w ≢ v → IsNewest xs v k o → IsNewest (xs ++ w ∷ []) v (k + 1) o
newest_other xs w v k None e n h = λ i s on. elim (cases_eq i (length xs)) [
  | inl q ↦ n (on_last xs w v i q on)
  | inr o ↦ (let b : i < length xs = omega arith in h i (omega arith) (on_front xs (w ∷ []) v i b on))
]
newest_other xs w v k (Some m) e n h = (
  omega (arith, h.0),
  on_more xs (w ∷ []) v m h.1,
  λ i g s on. elim (cases_eq i (length xs)) [
    | inl q ↦ n (on_last xs w v i q on)
    | inr o ↦ (let b : i < length xs = omega arith in h.2 i g (omega arith) (on_front xs (w ∷ []) v i b on))
  ],
)

pub newest_last : (xs : List ℕ) (w v : ℕ) → w ≡ v → IsNewest (xs ++ w ∷ []) v (length xs + 1) (Some (length xs))
newest_last xs w v e = (omega arith, is_last xs w v e, λ i g s on. absurd (omega arith))

-- one more binding
module _ (kept : List KeptSpan) (x : KeptSpan) (v : ℕ) (is : variable_by x.jump x.way (variables_of kept) ≡ v) where
  grown : variables_of (kept ++ x ∷ []) ≡ variables_of kept ++ v ∷ []
  grown = variables_more kept x ∙ ap (λ z. variables_of kept ++ z ∷ []) is

  ways_front : (i : ℕ) → HaveWays kept → i < length kept
      → HasWays (variables_of kept ++ v ∷ []) (get_or (variables_of kept ++ v ∷ []) i 0) i (before_of (get_or (kept ++ x ∷ []) i no_kept)) (get_or (kept ++ x ∷ []) i no_kept).jump
  ways_front i h l =
      let k = h i l in
      let vs = variables_of kept in
      let w = get_or vs i 0 in
      let y = get_or kept i no_kept in
      let m : i ≤ length vs = omega (arith, length-variables kept) in
      let there : i < length vs = omega (arith, length-variables kept) in
      subst (λ z. HasWays (vs ++ v ∷ []) z i (before_of (get_or (kept ++ x ∷ []) i no_kept)) (get_or (kept ++ x ∷ []) i no_kept).jump)
      (sym (get_or_append_left vs (v ∷ []) 0 i there))
      (subst (λ (z : KeptSpan). HasWays (vs ++ v ∷ []) w i (before_of z) z.jump) (sym (get_or_append_left kept (x ∷ []) no_kept i l)) (record {
        before_is = newest_front vs (v ∷ []) w i (before_of y) m k.before_is;
        jump_is = earlier_front vs (v ∷ []) w i y.jump k.jump_is;
      }))

  ways_last : (i : ℕ) → i ≡ length kept → IsNewest (variables_of kept) v (length kept) (before_of x) → IsEarlier (variables_of kept) v (length kept) x.jump
      → HasWays (variables_of kept ++ v ∷ []) (get_or (variables_of kept ++ v ∷ []) i 0) i (before_of (get_or (kept ++ x ∷ []) i no_kept)) (get_or (kept ++ x ∷ []) i no_kept).jump
  ways_last i e b j =
      let vs = variables_of kept in
      let row : get_or (kept ++ x ∷ []) i no_kept ≡ x = ap (λ k. get_or (kept ++ x ∷ []) k no_kept) e ∙ get_or-append_seam kept x [] no_kept in
      let own : get_or (vs ++ v ∷ []) i 0 ≡ v = ap (λ k. get_or (vs ++ v ∷ []) k 0) (e ∙ sym (length-variables kept)) ∙ get_or-append_seam vs v [] 0 in
      let w : HasWays (vs ++ v ∷ []) v (length kept) (before_of x) x.jump = record {
        before_is = newest_front vs (v ∷ []) v (length kept) (before_of x) (omega (arith, length-variables kept)) b;
        jump_is = earlier_front vs (v ∷ []) v (length kept) x.jump j;
      } in
      subst (λ z. HasWays (vs ++ v ∷ []) z i (before_of (get_or (kept ++ x ∷ []) i no_kept)) (get_or (kept ++ x ∷ []) i no_kept).jump) (sym own)
      (subst (λ (z : KeptSpan). HasWays (vs ++ v ∷ []) v i (before_of z) z.jump) (sym row)
      (subst (λ k. HasWays (vs ++ v ∷ []) v k (before_of x) x.jump) (sym e) w))

  have_more : HaveWays kept → IsNewest (variables_of kept) v (length kept) (before_of x) → IsEarlier (variables_of kept) v (length kept) x.jump → HaveWays (kept ++ x ∷ [])
  have_more h b j = λ i l.
      subst (λ vs. HasWays vs (get_or vs i 0) i (before_of (get_or (kept ++ x ∷ []) i no_kept)) (get_or (kept ++ x ∷ []) i no_kept).jump) (sym grown)
      (elim (cases_eq i (length kept)) [
        | inl e ↦ ways_last i e b j
        | inr o ↦ ways_front i h (omega (arith, l, length-append kept (x ∷ []), o))
      ])

  -- the moments behind which bindings were made
  from_front : (i : ℕ) → i < length kept → (get_or (kept ++ x ∷ []) i no_kept).from ≡ (get_or kept i no_kept).from
  from_front i l = ap (λ (z : KeptSpan). z.from) (get_or_append_left kept (x ∷ []) no_kept i l)

  from_last : (i : ℕ) → i ≡ length kept → (get_or (kept ++ x ∷ []) i no_kept).from ≡ x.from
  from_last i e = ap (λ (z : KeptSpan). z.from) (ap (λ k. get_or (kept ++ x ∷ []) k no_kept) e ∙ get_or-append_seam kept x [] no_kept)

  past_more : (m i : ℕ) → ((i : ℕ) → i < length kept → (get_or kept i no_kept).from < m) → x.from ≡ m → i < length (kept ++ x ∷ []) → (get_or (kept ++ x ∷ []) i no_kept).from < m + 1
  past_more m i h e l = elim (cases_eq i (length kept)) [
    | inl q ↦ omega (arith, from_last i q, e)
    | inr o ↦ (let b : i < length kept = omega (arith, l, length-append kept (x ∷ []), o) in omega (arith, from_front i b, h i b))
  ]

  rising_more : (m i j : ℕ) → ((i j : ℕ) → i ≤ j → j < length kept → (get_or kept i no_kept).from ≤ (get_or kept j no_kept).from)
      → ((i : ℕ) → i < length kept → (get_or kept i no_kept).from < m) → x.from ≡ m → i ≤ j → j < length (kept ++ x ∷ [])
      → (get_or (kept ++ x ∷ []) i no_kept).from ≤ (get_or (kept ++ x ∷ []) j no_kept).from
  rising_more m i j r h e le l = elim (cases_eq j (length kept)) [
    | inl q ↦ (let p = past_more m i h e (omega (arith, le, l)) in omega (arith, p, from_last j q, e))
    | inr o ↦
        let b : j < length kept = omega (arith, l, length-append kept (x ∷ []), o) in
        omega (arith, from_front i (omega (arith, le, b)), from_front j b, r i j le b)
  ]

  pub linked_more : (newest : List (Option ℕ)) (moments n : ℕ) → AreLinked kept newest moments → v < length newest → n ≡ length kept
      → before_of x ≡ get_or newest v None → IsEarlier (variables_of kept) v (length kept) x.jump → x.from ≡ moments → AreLinked (kept ++ x ∷ []) (set newest v (Some n)) (moments + 1)
  linked_more newest moments n h l e b j made =
      let vs = variables_of kept in
      let count : length vs ≡ length kept = length-variables kept in
      let total : length (kept ++ x ∷ []) ≡ length kept + 1 = length-append kept (x ∷ []) in
      let old : IsNewest vs v (length kept) (before_of x) = subst (IsNewest vs v (length kept)) (sym b) (h.newest_is v l) in
      record {
        few = omega (arith, h.few, total);
        rising = λ i k le m. rising_more moments i k h.rising h.past made le m;
        past = λ i m. past_more moments i h.past made m;
        ways = have_more h.ways old j;
        below = λ w i on. (let on' : IsOn (vs ++ v ∷ []) w i = subst (λ z. IsOn z w i) grown on in elim (cases_eq i (length vs)) [
          | inl q ↦ (let same : v ≡ w = on_last vs v w i q on' in omega (arith, same, l, length-set newest v (Some n)))
          | inr o ↦
              let front : i < length vs = omega (arith, on'.there, length-append vs (v ∷ []), o) in
              omega (arith, h.below w i (on_front vs (v ∷ []) w i front on'), length-set newest v (Some n))
        ]);
        newest_is = λ w m. subst (λ z. IsNewest z w (length (kept ++ x ∷ [])) (get_or (set newest v (Some n)) w None)) (sym grown)
            (subst (λ z. IsNewest (vs ++ v ∷ []) w z (get_or (set newest v (Some n)) w None)) (sym total) (elim (cases_eq v w) [
              | inl q ↦
                  let here : get_or (set newest v (Some n)) w None ≡ Some (length vs) =
                  ap (λ z. get_or (set newest v (Some n)) z None) (sym q) ∙ get_or-set_same newest v (Some n) None l ∙ ap Some (e ∙ sym count) in
                  subst (IsNewest (vs ++ v ∷ []) w (length kept + 1)) (sym here)
                  (subst (λ z. IsNewest (vs ++ v ∷ []) w z (Some (length vs))) (ap (λ z. z + 1) count) (newest_last vs v w q))
              | inr o ↦
                  let there : get_or (set newest v (Some n)) w None ≡ get_or newest w None = get_or-set_other newest v w (Some n) None (λ q. o (sym q)) in
                  let m' : w < length newest = omega (arith, m, length-set newest v (Some n)) in
                  subst (IsNewest (vs ++ v ∷ []) w (length kept + 1)) (sym there)
                  (newest_other vs v w (length kept) (get_or newest w None) (sym count) o (h.newest_is w m'))
            ]));
      }

-- one binding ends
module _ (kept : List KeptSpan) (at : ℕ) (x : KeptSpan) (l : at < length kept) (way : x.way ≡ (get_or kept at no_kept).way) (jump : x.jump ≡ (get_or kept at no_kept).jump)
    (from : x.from ≡ (get_or kept at no_kept).from) where
  same_variables : variables_of (set kept at x) ≡ variables_of kept
  same_variables = variables_set kept at x l way jump

  from_same : (i : ℕ) → (get_or (set kept at x) i no_kept).from ≡ (get_or kept i no_kept).from
  from_same i = elim (cases_eq at i) [
    | inl q ↦
        ap (λ k. (get_or (set kept at x) k no_kept).from) (sym q) ∙ ap (λ (z : KeptSpan). z.from) (get_or-set_same kept at x no_kept l) ∙ from
        ∙ ap (λ k. (get_or kept k no_kept).from) q
    | inr o ↦ ap (λ (z : KeptSpan). z.from) (get_or-set_other kept at i x no_kept (λ q. o (sym q)))
  ]

  jump_same : (i : ℕ) → (get_or (set kept at x) i no_kept).jump ≡ (get_or kept i no_kept).jump
  jump_same i = elim (cases_eq at i) [
    | inl q ↦
        ap (λ k. (get_or (set kept at x) k no_kept).jump) (sym q) ∙ ap (λ (z : KeptSpan). z.jump) (get_or-set_same kept at x no_kept l) ∙ jump
        ∙ ap (λ k. (get_or kept k no_kept).jump) q
    | inr o ↦ ap (λ (z : KeptSpan). z.jump) (get_or-set_other kept at i x no_kept (λ q. o (sym q)))
  ]

  before_same : (i : ℕ) → before_of (get_or (set kept at x) i no_kept) ≡ before_of (get_or kept i no_kept)
  before_same i = elim (cases_eq at i) [
    | inl q ↦
        ap (λ k. before_of (get_or (set kept at x) k no_kept)) (sym q) ∙ ap before_of (get_or-set_same kept at x no_kept l)
        ∙ ap (λ z. before_by z x.way) jump ∙ ap (λ z. before_by (get_or kept at no_kept).jump z) way
        ∙ ap (λ k. before_of (get_or kept k no_kept)) q
    | inr o ↦ ap before_of (get_or-set_other kept at i x no_kept (λ q. o (sym q)))
  ]

  ways_same : HaveWays kept → HaveWays (set kept at x)
  ways_same h = λ i m.
      (let k = h i (omega (arith, m, length-set kept at x)) in
      subst (λ vs. HasWays vs (get_or vs i 0) i (before_of (get_or (set kept at x) i no_kept)) (get_or (set kept at x) i no_kept).jump) (sym same_variables)
      (subst (λ z. HasWays (variables_of kept) (get_or (variables_of kept) i 0) i z (get_or (set kept at x) i no_kept).jump) (sym (before_same i))
      (subst (λ z. HasWays (variables_of kept) (get_or (variables_of kept) i 0) i (before_of (get_or kept i no_kept)) z) (sym (jump_same i)) k)))

  pub linked_ended : (newest : List (Option ℕ)) (moments : ℕ) → AreLinked kept newest moments → AreLinked (set kept at x) newest (moments + 1)
  linked_ended newest moments h =
      let count = length-set kept at x in
      record {
        few = omega (arith, h.few, count);
        rising = λ i j le m. omega (arith, from_same i, from_same j, h.rising i j le (omega (arith, m, count)));
        past = λ i m. omega (arith, from_same i, h.past i (omega (arith, m, count)));
        ways = ways_same h.ways;
        below = λ v i on. h.below v i (subst (λ z. IsOn z v i) same_variables on);
        newest_is = λ v m. subst (λ z. IsNewest z v (length (set kept at x)) (get_or newest v None)) (sym same_variables)
            (subst (λ k. IsNewest (variables_of kept) v k (get_or newest v None)) (sym count) (h.newest_is v m));
      }

pub linked_later : (kept : List KeptSpan) (newest : List (Option ℕ)) (moments : ℕ) → AreLinked kept newest moments → AreLinked kept newest (moments + 1)
linked_later kept newest moments h = record {
  few = omega (arith, h.few);
  rising = h.rising;
  past = λ i m. omega (arith, h.past i m);
  ways = h.ways;
  below = h.below;
  newest_is = h.newest_is;
}

-- the newest binding of a variable ends
pub linked_freed : (kept : List KeptSpan) (newest : List (Option ℕ)) (moments v : ℕ) (o : Option ℕ) → AreLinked kept newest moments
    → IsNewest (variables_of kept) v (length kept) o → AreLinked (ended_at o moments kept) newest (moments + 1)
linked_freed kept newest moments v None h n = linked_later kept newest moments h
linked_freed kept newest moments v (Some i) h n = linked_ended kept i (with_until moments (get_or kept i no_kept)) n.0 refl refl refl newest moments h

-- the newest binding made before a moment is sought: those after the place weren't
abbrev pub Seeks : List KeptSpan → ℕ → ℕ → Option ℕ → Type 0
Seeks kept v m None = (i : ℕ) → IsOn (variables_of kept) v i → m ≤ (get_or kept i no_kept).from
Seeks kept v m (Some n) =
    IsOn (variables_of kept) v n × ((i : ℕ) → n < i → IsOn (variables_of kept) v i → m ≤ (get_or kept i no_kept).from)

-- one more than a place
abbrev pub rank : Option ℕ → ℕ
rank None = 0
rank (Some n) = n + 1

newest_rank : (vs : List ℕ) (v k : ℕ) (o : Option ℕ) → IsNewest vs v k o → rank o ≤ k
newest_rank vs v k None h = omega arith
newest_rank vs v k (Some n) h = omega (arith, h.0)

pub record SeeksOn (kept : List KeptSpan) (v m : ℕ) (before after : Option ℕ) : Type 0 where
  pub seeks : Seeks kept v m after
  pub smaller : rank after < rank before

module _ (kept : List KeptSpan) (newest : List (Option ℕ)) (moments v m at : ℕ) (h : AreLinked kept newest moments) (late : m ≤ (get_or kept at no_kept).from)
    (s : Seeks kept v m (Some at)) where
  there : at < length kept
  there = omega (arith, s.0.there, length-variables kept)

  -- this one and those after it weren't made before
  none_after : (i : ℕ) → at ≤ i → IsOn (variables_of kept) v i → m ≤ (get_or kept i no_kept).from
  none_after i le on = elim (cases_eq at i) [
    | inl q ↦ subst (λ k. m ≤ (get_or kept k no_kept).from) q late
    | inr o ↦ s.1 i (omega (arith, le, o)) on
  ]

  -- to the one before
  seeks_by : (o : Option ℕ) → IsNewest (variables_of kept) v at o → Seeks kept v m o
  seeks_by None n = λ i on. elim (cases_lt i at) [
    | inl q ↦ absurd (n i q on)
    | inr q ↦ none_after i q on
  ]
  seeks_by (Some k) n = (
    n.1,
    λ i g on. elim (cases_lt i at) [
      | inl q ↦ absurd (n.2 i g q on)
      | inr q ↦ none_after i q on
    ],
  )

  seeks_before : (o : Option ℕ) → o ≡ before_of (get_or kept at no_kept) → SeeksOn kept v m (Some at) o
  seeks_before o e =
      let k = h.ways at there in
      let n : IsNewest (variables_of kept) v at o = subst (IsNewest (variables_of kept) v at) (sym e)
      (subst (λ w. IsNewest (variables_of kept) w at (before_of (get_or kept at no_kept))) s.0.is k.before_is) in
      record { seeks = seeks_by o n; smaller = omega (arith, newest_rank (variables_of kept) v at o n) }

  -- further back
  seeks_jump : (far : ℕ) → (get_or kept at no_kept).jump ≡ Some far → m ≤ (get_or kept far no_kept).from → SeeksOn kept v m (Some at) (Some far)
  seeks_jump far e l =
      let k = h.ways at there in
      let j : IsEarlier (variables_of kept) v at (Some far) = subst (IsEarlier (variables_of kept) v at) e
      (subst (λ w. IsEarlier (variables_of kept) w at (get_or kept at no_kept).jump) s.0.is k.jump_is) in
      record {
        seeks = (j.1, λ i g on. (let r = h.rising far i (omega arith) (omega (arith, on.there, length-variables kept)) in omega (arith, r, l)));
        smaller = omega (arith, j.0);
      }

-- one step back, as the program takes it
pub goes_back : (kept : List KeptSpan) (newest : List (Option ℕ)) (moments v m at : ℕ) (next o : Option ℕ) (k : KeptSpan) → AreLinked kept newest moments → Seeks kept v m next
    → next ≡ Some at → m ≤ k.from → k ≡ get_or kept at k → GoesBack kept k m o → SeeksOn kept v m next o
goes_back kept newest moments v m at next o k h s e late r g =
    let here : Seeks kept v m (Some at) = subst (Seeks kept v m) e s in
    let is : get_or kept at no_kept ≡ k = read_at kept at k no_kept (omega (arith, here.0.there, length-variables kept)) r in
    let l : m ≤ (get_or kept at no_kept).from = omega (arith, late, ap (λ (z : KeptSpan). z.from) is) in
    subst (λ z. SeeksOn kept v m z o) (sym e) (elim g [
      | inl b ↦ seeks_before kept newest moments v m at h l here o (b ∙ ap before_of (sym is))
      | inr j ↦
          subst (SeeksOn kept v m (Some at)) (sym j.1)
          (seeks_jump kept newest moments v m at h l here j.0 (ap (λ (z : KeptSpan). z.jump) is ∙ j.2) j.3)
    ])

pub jump_there : (kept : List KeptSpan) (at : ℕ) (k : KeptSpan) → HaveWays kept → at < length kept → k ≡ get_or kept at k → (far : ℕ) → k.jump ≡ Some far → far < length kept
jump_there kept at k h l r far e =
    let is : get_or kept at no_kept ≡ k = read_at kept at k no_kept l r in
    let j : IsEarlier (variables_of kept) (get_or (variables_of kept) at 0) at (Some far) =
    subst (IsEarlier (variables_of kept) (get_or (variables_of kept) at 0) at) (ap (λ (z : KeptSpan). z.jump) is ∙ e) (h at l).jump_is in
    omega (arith, j.0, l)

pub seeks_inside : (kept : List KeptSpan) (v m at : ℕ) (next : Option ℕ) → Seeks kept v m next → next ≡ Some at → at < length kept
seeks_inside kept v m at next s e =
    let here : Seeks kept v m (Some at) = subst (Seeks kept v m) e s in
    omega (arith, here.0.there, length-variables kept)

-- at first
seeks_from : (kept : List KeptSpan) (v m : ℕ) (o : Option ℕ) → IsNewest (variables_of kept) v (length kept) o → Seeks kept v m o
seeks_from kept v m None h = λ i on. absurd (h i (omega (arith, on.there, length-variables kept)) on)
seeks_from kept v m (Some n) h = (h.1, λ i g on. absurd (h.2 i g (omega (arith, on.there, length-variables kept)) on))

pub seeks_first : (kept : List KeptSpan) (newest : List (Option ℕ)) (moments v m : ℕ) (o x : Option ℕ) → AreLinked kept newest moments → v < length newest
    → x ≡ get_or newest v x → o ≡ x → Seeks kept v m o
seeks_first kept newest moments v m o x h there e is =
    seeks_from kept v m o (subst (IsNewest (variables_of kept) v (length kept)) (read_at newest v x None there e ∙ sym is) (h.newest_is v there))

-- ways for one more binding of the variable
module _ (kept : List KeptSpan) (at : ℕ) (h : HaveWays kept) (l : at < length kept) where
  pub over_none : IsEarlier (variables_of kept) (get_or (variables_of kept) at 0) (length kept) (Some at)
  over_none = (l, record { there = omega (arith, l, length-variables kept); is = refl })

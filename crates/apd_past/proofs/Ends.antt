-- What the end of the newest binding makes of the bindings at moments.
use Rattle.std.proofs.Common.{◌≡◌, ◌⊎◌, inl, inr, ℕ, ◌+◌, ◌<◌, ◌≤◌, false, true, if◌then◌else◌, Option, Some, None, List, [], ◌∷◌, drop, refl, sym, ◌∙◌, ap, subst, arith}
use Rattle.std.proofs.lemmas.Bool.{cases_eq}
use Rattle.apd_term.specs.declared.term.Sym.{Sym}
use Rattle.apd_cells.specs.declared.heap.TrailNote.{TrailNote}
use Rattle.apd_cells.specs.declared.heap.TrailNote.TheVariants.{Bound}
use Rattle.apd_cells.specs.declared.heap.Binding.TheVariants.{Free}
use Rattle.apd_cells.specs.Store.{binding_of, MayBind}
use Rattle.apd_cells.proofs.Meaning.{binding-same}
use Rattle.apd_past.specs.Done.{Span, ended_on, with_end}
use Rattle.apd_past.specs.History.{bindings_at, ended, is_bound, is_open, AreSpans, ComeBefore, IsPast, IsRight}
use Rattle.apd_past.proofs.Bindings.{are_later, free_later, past_later, quiet}
use Rattle.apd_past.proofs.Moments.{IsWithin, WasBound, at_bound, at_other, bound_cases, bound_is, was_bound}
use Rattle.apd_past.proofs.Telling.{ended_here, ended_other}

-- the newest binding without an end ends
open_cases : (o : Option ℕ) → (o ≡ None) ⊎ ((u : ℕ) × (o ≡ Some u))
open_cases None = inl refl
open_cases (Some u) = inr (u, refl)

ended_open : (m : ℕ) (s : Span) (ss : List Span) → s.until ≡ None → ended m (s ∷ ss) ≡ with_end m s ∷ ss
ended_open m s ss e = ap (λ o. if is_open o then with_end m s ∷ ss else s ∷ ended m ss) e

ended_past : (m : ℕ) (s : Span) (ss : List Span) (u : ℕ) → s.until ≡ Some u → ended m (s ∷ ss) ≡ s ∷ ended m ss
ended_past m s ss u e = ap (λ o. if is_open o then with_end m s ∷ ss else s ∷ ended m ss) e

-- at earlier moments it was there
end_earlier : (m k : ℕ) (s : Span) → s.until ≡ None → k ≤ m → WasBound k (with_end m s) → WasBound k s
end_earlier m k s e l w = record { made = w.made; within = subst (IsWithin k) (sym e) tt }

end_there : (m k : ℕ) (s : Span) → k ≤ m → WasBound k s → WasBound k (with_end m s)
end_there m k s l w = record { made = w.made; within = l }

-- and at those of its own it is what it was
same_ended : (m k : ℕ) (s : Span) (ss : List Span) → s.until ≡ None → k ≤ m → bindings_at k (with_end m s ∷ ss) ≡ bindings_at k (s ∷ ss)
same_ended m k s ss e l = elim (bound_cases k s) [
  | inl b ↦ at_bound k (with_end m s) ss (bound_is k (with_end m s) (end_there m k s l b.1)) ∙ sym (at_bound k s ss b.0)
  | inr b ↦ elim (bound_cases k (with_end m s)) [
    | inl c ↦ absurd (b.1 (end_earlier m k s e l c.1))
    | inr c ↦ at_other k (with_end m s) ss c.0 ∙ sym (at_other k s ss b.0)
  ]
]

cons_same : (m : ℕ) (s : Span) (xs ys : List Span) → bindings_at m xs ≡ bindings_at m ys → bindings_at m (s ∷ xs) ≡ bindings_at m (s ∷ ys)
cons_same m s xs ys e = ap (λ z. if is_bound m s then Bound s.variable s.cell ∷ z else z) e

pub ended_earlier : (m k : ℕ) (ss : List Span) → k ≤ m → bindings_at k (ended m ss) ≡ bindings_at k ss
ended_earlier m k [] l = refl
ended_earlier m k (s ∷ ss) l = elim (open_cases s.until) [
  | inl e ↦ ap (bindings_at k) (ended_open m s ss e) ∙ same_ended m k s ss e l
  | inr u ↦ ap (bindings_at k) (ended_past m s ss u.0 u.1) ∙ cons_same k s (ended m ss) ss (ended_earlier m k ss l)
]

ended_before : (m k : ℕ) (ss : List Span) → ComeBefore k ss → ComeBefore k (ended m ss)
ended_before m k [] h = tt
ended_before m k (s ∷ ss) h = elim (open_cases s.until) [
  | inl e ↦ subst (ComeBefore k) (sym (ended_open m s ss e)) h
  | inr u ↦ subst (ComeBefore k) (sym (ended_past m s ss u.0 u.1)) (h.0, ended_before m k ss h.1)
]

pub are_ended : (m : ℕ) (ss : List Span) → AreSpans m ss → AreSpans (m + 1) (ended m ss)
are_ended m [] h = tt
are_ended m (s ∷ ss) h = elim (open_cases s.until) [
  | inl e ↦
      subst (AreSpans (m + 1)) (sym (ended_open m s ss e))
      (record { made = omega (arith, h.0.made); ended = omega arith; after = h.0.after; free = h.0.free }, are_later m ss h.1)
  | inr u ↦
      subst (AreSpans (m + 1)) (sym (ended_past m s ss u.0 u.1)) (
        record {
          made = omega (arith, h.0.made);
          ended = past_later m s.until h.0.ended;
          after = ended_before m s.from ss h.0.after;
          free = ap (λ z. binding_of z s.variable) (ended_earlier m s.from ss (omega (arith, h.0.made))) ∙ h.0.free;
        },
        are_ended m ss h.1,
      )
]

-- one that has ended isn't there
is_over : (m k : ℕ) (s : Span) (u : ℕ) → s.until ≡ Some u → IsPast m s.until → m ≤ k → is_bound k s ≡ false
is_over m k s u e p l = elim (bound_cases k s) [
  | inl b ↦
      let w : k ≤ u = subst (IsWithin k) e b.1.within in
      let q : u < m = subst (IsPast m) e p in
      absurd (omega (arith, w, q, l))
  | inr b ↦ b.0
]

is_still : (m : ℕ) (s : Span) → s.until ≡ None → s.from < m → is_bound m s ≡ true
is_still m s e l = bound_is m s (record { made = l; within = subst (IsWithin m) (sym e) tt })

end_over : (m : ℕ) (s : Span) → is_bound (m + 1) (with_end m s) ≡ false
end_over m s = is_over (m + 1) (m + 1) (with_end m s) m refl (omega arith) (omega arith)

pub ended_first : (m : ℕ) (ss : List Span) → AreSpans m ss → bindings_at (m + 1) (ended m ss) ≡ drop 1 (bindings_at m ss)
ended_first m [] h = refl
ended_first m (s ∷ ss) h = elim (open_cases s.until) [
  | inl e ↦
      ap (bindings_at (m + 1)) (ended_open m s ss e) ∙ at_other (m + 1) (with_end m s) ss (end_over m s)
      ∙ quiet m (m + 1) ss h.1 (omega arith) ∙ sym (ap (drop 1) (at_bound m s ss (is_still m s e h.0.made)))
  | inr u ↦
      ap (bindings_at (m + 1)) (ended_past m s ss u.0 u.1)
      ∙ at_other (m + 1) s (ended m ss) (is_over m (m + 1) s u.0 u.1 h.0.ended (omega arith))
      ∙ ended_first m ss h.1 ∙ ap (drop 1) (sym (at_other m s ss (is_over m m s u.0 u.1 h.0.ended (omega arith))))
]

pub right_ended : (cells : List Sym) (n m : ℕ) (ss : List Span) → AreSpans m ss → IsRight cells n ss → IsRight cells n (ended m ss)
right_ended cells n m [] h r = r
right_ended cells n m (s ∷ ss) h r = elim (open_cases s.until) [
  | inl e ↦
      subst (IsRight cells n) (sym (ended_open m s ss e)) (
        record {
          may = r.0.may;
          stays = λ k b. (let w = was_bound k (with_end m s) b in r.0.stays k (bound_is k s (end_earlier m k s e w.within w)));
        },
        r.1,
      )
  | inr u ↦
      let early : s.from ≤ m = omega (arith, h.0.made) in
      subst (IsRight cells n) (sym (ended_past m s ss u.0 u.1)) (
        record {
          may = subst (λ z. MayBind cells n z s.variable s.cell) (sym (ended_earlier m s.from ss early)) r.0.may;
          stays = λ k b.
              (let w : k ≤ u.0 = subst (IsWithin k) u.1 (was_bound k s b).within in
              let q : u.0 < m = subst (IsPast m) u.1 h.0.ended in
              ended_earlier m k ss (omega (arith, w, q)) ∙ r.0.stays k b ∙ sym (ended_earlier m s.from ss early));
        },
        right_ended cells n m ss h.1 r.1,
      )
]

-- it is the newest binding of its variable
pub ended_same : (m v c : ℕ) (ss : List Span) (rest : List TrailNote) → AreSpans m ss → bindings_at m ss ≡ Bound v c ∷ rest → ended_on m v ss ≡ ended m ss
ended_same m v c [] rest h e = refl
ended_same m v c (s ∷ ss) rest h e = elim (open_cases s.until) [
  | inl o ↦
      let first : Bound s.variable s.cell ∷ bindings_at m ss ≡ Bound v c ∷ rest = sym (at_bound m s ss (is_still m s o h.0.made)) ∙ e in
      let own : s.variable ≡ v = cc in
      ended_here m v s ss own ∙ sym (ended_open m s ss o)
  | inr u ↦
      let later : bindings_at m ss ≡ Bound v c ∷ rest = sym (at_other m s ss (is_over m m s u.0 u.1 h.0.ended (omega arith))) ∙ e in
      elim (cases_eq s.variable v) [
        | inl q ↦
            let free = free_later s.from m ss v h.0.after (omega (arith, h.0.made)) (subst (λ w. binding_of (bindings_at s.from ss) w ≡ Free) q h.0.free) in
            let there = ap (λ z. binding_of z v) later ∙ binding-same v c rest v refl in
            absurd (cc)
        | inr n ↦ ended_other m v s ss n ∙ ap (λ z. s ∷ z) (ended_same m v c ss rest h.1 later) ∙ sym (ended_past m s ss u.0 u.1)
      ]
]

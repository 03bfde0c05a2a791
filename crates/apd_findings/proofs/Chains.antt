-- Chains of calls of which each is below the one before by what the store says.
use Rattle.std.proofs.Common.{◌≡◌, ◌⊎◌, ◌↔◌, inl, inr, ◌<◌, ◌≤◌, ◌+◌, ℕ, zero, suc, Bool, true, false, List, [], ◌∷◌, length, drop, get_or, Result, Ok, Err, refl, sym, ap, ◌∙◌, subst, arith}
use Rattle.std.specs.Prelude.{IfOk, replicate, slice_set}
use Rattle.std.specs.declared.alloc.AllocError.{AllocError}
use Rattle.std.proofs.lemmas.List.{drop_more, length-drop}
use Rattle.apd_term.specs.Term.{Term, IsAmong, variable}
use Rattle.apd_bits.proofs.Lists.{among-at}
use Rattle.apd_answers.specs.Findings.{AllDescendByReplies}
use Rattle.apd_answers.specs.Store.{Store, SaysBelow}
use Rattle.apd_findings.specs.Deciding.{says_below}
use Rattle.apd_findings.specs.Descending.{AreSaidAt, IsSaidAt, IsSamePair, call_at, says_at}
use Rattle.apd_findings.proofs.Marked.{at-default}
use Rattle.apd_findings.proofs.Tests.{says_below-is}

-- one call more

descent-step : (store : Store) (calls : List Term) (i : ℕ) → i + 1 < length calls → AllDescendByReplies store (drop i calls) ↔ (SaysBelow store (call_at calls (i + 1)) (call_at calls i) × AllDescendByReplies store (drop (i + 1) calls))
descent-step store calls i l =
    let p = call_at calls i in
    let q = call_at calls (i + 1) in
    let d1 = drop_more calls i (variable 0) (omega (arith, l)) in
    let d2 = drop_more calls (i + 1) (variable 0) l in
    let one : drop i calls ≡ p ∷ q ∷ drop (i + 1 + 1) calls = cc in
    by p q (drop i calls) (drop (i + 1) calls) (drop (i + 1 + 1) calls) one d2
  where
    by : (p q : Term) (xs ys rest : List Term) → xs ≡ p ∷ q ∷ rest → ys ≡ q ∷ rest → AllDescendByReplies store xs ↔ (SaysBelow store q p × AllDescendByReplies store ys)
    by p q xs ys rest u v = rw (u, v) (λ h. h, λ h. h)

no-more : (store : Store) (calls : List Term) (i : ℕ) → length calls ≤ i + 1 → AllDescendByReplies store (drop i calls)
no-more store calls i l = by (drop i calls) (omega (arith, l, length-drop i calls))
  where
    by : (xs : List Term) → length xs ≤ 1 → AllDescendByReplies store xs
    by [] k = tt
    by (x ∷ []) k = tt
    by (x ∷ y ∷ xs) k = absurd (omega (arith, k))

module _ (store : Store) (calls : List Term) (i : ℕ) (so_far : AllDescendByReplies store calls ↔ AllDescendByReplies store (drop i calls)) where
  pub descent-fails : (b : Bool) → i + 1 < length calls → b ≡ says_at store calls i → b ≡ false → false ≡ true ↔ AllDescendByReplies store calls
  descent-fails b l is fails = (
    λ k. absurd (cc),
    λ all. absurd (let h = (descent-step store calls i l).0 (so_far.0 all) in let t : true ≡ false = sym ((says_below-is store (call_at calls (i + 1)) (call_at calls i)).1 h.0) ∙ sym is ∙ fails in cc),
  )

  pub descent-goes : (b : Bool) → i + 1 < length calls → b ≡ says_at store calls i → b ≡ true → AllDescendByReplies store calls ↔ AllDescendByReplies store (drop (i + 1) calls)
  descent-goes b l is goes = (
    λ all. ((descent-step store calls i l).0 (so_far.0 all)).1,
    λ rest. so_far.1 ((descent-step store calls i l).1 ((says_below-is store (call_at calls (i + 1)) (call_at calls i)).0 (sym is ∙ goes), rest)),
  )

  pub descent-ends : length calls ≤ i + 1 → true ≡ true ↔ AllDescendByReplies store calls
  descent-ends l = (λ k. so_far.1 (no-more store calls i l), λ k. refl)

pub few-calls : (store : Store) (calls : List Term) → length calls < 2 → true ≡ true ↔ AllDescendByReplies store calls
few-calls store [] l = (λ k. tt, λ k. refl)
few-calls store (x ∷ []) l = (λ k. tt, λ k. refl)
few-calls store (x ∷ y ∷ xs) l = absurd (omega (arith, l))

-- Calls that are looked up.

pub call-is : (calls : List Term) (i : ℕ) (x : Term) → i < length calls → x ≡ get_or calls i x → x ≡ call_at calls i
call-is calls i x l e = at-default calls i x (variable 0) l e

pub same-calls : (calls : List Term) (i : ℕ) (x y : Term) (j : ℕ) → i < length calls → j < length calls → x ≡ get_or calls i x → y ≡ get_or calls j y → x ≡ y → call_at calls i ≡ call_at calls j
same-calls calls i x y j l m e f is = sym (call-is calls i x l e) ∙ is ∙ call-is calls j y m f

pub said-of : (store : Store) (calls : List Term) (i : ℕ) (p q : Term) (b : Bool) → i + 1 < length calls → p ≡ get_or calls i p → q ≡ get_or calls (i + 1) q → b ≡ says_below store q p → b ≡ says_at store calls i
said-of store calls i p q b l e f is =
    is ∙ ap (λ (x : Term). says_below store x p) (call-is calls (i + 1) q l f) ∙ ap (λ (y : Term). says_below store (call_at calls (i + 1)) y) (call-is calls i p (omega (arith, l)) e)

pub looked-up : (store : Store) (calls : List Term) (i : ℕ) (p q : Term) (r : Result Bool AllocError) → i + 1 < length calls → p ≡ get_or calls i p → q ≡ get_or calls (i + 1) q → IfOk r (λ b. b ≡ says_below store q p) → IfOk r (λ b. b ≡ says_at store calls i)
looked-up store calls i p q (Ok b) l e f is = said-of store calls i p q b l e f is
looked-up store calls i p q (Err x) l e f is = tt

pub said-again : (store : Store) (calls : List Term) (known i : ℕ) → IsSaidAt store calls known → IsSamePair calls known i → true ≡ says_at store calls i
said-again store calls known i h e =
    sym h.said ∙ ap (λ (x : Term). says_below store x (call_at calls known)) e.1 ∙ ap (λ (y : Term). says_below store (call_at calls (i + 1)) y) e.0

pub said-here : (store : Store) (calls : List Term) (i : ℕ) (b : Bool) → i + 1 < length calls → b ≡ says_at store calls i → b ≡ true → IsSaidAt store calls i
said-here store calls i b l e t = record { within = l; said = sym e ∙ t }

-- Places that are kept.

among-zeros : (n i : ℕ) → IsAmong (replicate n 0) i → 0 ≡ i
among-zeros zero i a = absurd a
among-zeros (suc n) i (inl e) = e
among-zeros (suc n) i (inr a) = among-zeros n i a

pub kept-first : (store : Store) (calls : List Term) (places : List ℕ) (n : ℕ) → places ≡ replicate n 0 → IsSaidAt store calls 0 → AreSaidAt store calls places
kept-first store calls places n e h i a = subst (IsSaidAt store calls) (among-zeros n i (subst (λ xs. IsAmong xs i) e a)) h

pub kept-at : (store : Store) (calls : List Term) (places : List ℕ) (s n : ℕ) → s < length places → n ≡ get_or places s 0 → AreSaidAt store calls places → IsSaidAt store calls n
kept-at store calls places s n l e all = all n (among-at places s n l e)

among-set : (xs : List ℕ) (s n i : ℕ) → IsAmong (slice_set xs s n) i → (n ≡ i) ⊎ IsAmong xs i
among-set [] s n i a = inr a
among-set (x ∷ xs) zero n i (inl e) = inl e
among-set (x ∷ xs) zero n i (inr a) = inr (inr a)
among-set (x ∷ xs) (suc s) n i (inl e) = inr (inl e)
among-set (x ∷ xs) (suc s) n i (inr a) = elim (among-set xs s n i a) [ inl e ↦ inl e | inr b ↦ inr (inr b) ]

pub kept-set : (store : Store) (calls : List Term) (places : List ℕ) (s n : ℕ) → IsSaidAt store calls n → AreSaidAt store calls places → AreSaidAt store calls (slice_set places s n)
kept-set store calls places s n h all i a = elim (among-set places s n i a) [ inl e ↦ subst (IsSaidAt store calls) e h | inr b ↦ all i b ]

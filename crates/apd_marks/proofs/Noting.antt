-- Places are noted by their marks, and forgotten.
use Rattle.std.proofs.Common.{◌≡◌, ℕ, ◌+◌, ◌<◌, ◌≤◌, zero, suc, Bool, true, false, List, [], ◌∷◌, ◌++◌, length, Some, None, Option, Result, Ok, Err, refl, sym, subst, ◌∙◌, ap, arith}
use Rattle.std.specs.Prelude.{if◌then◌else◌, All, IfNone, OnErr, OnOk, is_ok, nat_eq, option_to_list, slice_get, unwrap_or}
use Rattle.std.specs.List.Sorted.{IsNonDecreasing}
use Rattle.std.proofs.lemmas.Bool.{eqb-true}
use Rattle.std.proofs.lemmas.Grind.{common_steps}
use Rattle.std.proofs.lemmas.List.Elements.{All-cons, All-head, All-tail, All-weaker}
use Rattle.indexmap.specs.IndexMap.{get}
use Rattle.apd_marks.specs.Places.{Index, IsIndexOf, Notes, places_at, places_of, places_where}

pub on_err : {T E : Type 0} (r : Result T E) (P Q : Type 0) → OnErr r P → (P → Q) → OnErr r Q
on_err (Ok x) P Q h f = tt
on_err (Err e) P Q h f = f h

-- what an index has after one more place of a mark
pub noted : (m n : Index) (p q : ℕ) (xs : List ℕ) → places_at m p ≡ xs → (k : ℕ)
    → get nat_eq n q ≡ (if nat_eq p q then Some (xs ++ k ∷ []) else get nat_eq m q)
    → places_at n q ≡ (if nat_eq p q then places_at m q ++ k ∷ [] else places_at m q)
noted m n p q xs is k h = either (nat_eq p q) refl h
  where
    either : (b : Bool) → nat_eq p q ≡ b → get nat_eq n q ≡ (if b then Some (xs ++ k ∷ []) else get nat_eq m q)
        → places_at n q ≡ (if b then places_at m q ++ k ∷ [] else places_at m q)
    either true e h' = let same = eqb-true p q e in ap (λ o. unwrap_or o []) h' ∙ ap (λ ys. ys ++ k ∷ []) (sym is ∙ ap (places_at m) same)
    either false e h' = ap (λ o. unwrap_or o []) h'

-- what an index has after the same places were put back
pub unnoted : (m n : Index) (p q : ℕ) (xs : List ℕ) → get nat_eq m p ≡ Some xs
    → get nat_eq n q ≡ (if nat_eq p q then Some xs else get nat_eq m q) → places_at n q ≡ places_at m q
unnoted m n p q xs is h = either (nat_eq p q) refl h
  where
    either : (b : Bool) → nat_eq p q ≡ b → get nat_eq n q ≡ (if b then Some xs else get nat_eq m q) → places_at n q ≡ places_at m q
    either true e h' = let same = eqb-true p q e in ap (λ o. unwrap_or o []) (h' ∙ sym is ∙ ap (get nat_eq m) same)
    either false e h' = ap (λ o. unwrap_or o []) h'

-- what was noted before the last place of a mark was taken away
pub forgotten : (m n : Index) (p q : ℕ) (xs ys : List ℕ) (k : ℕ) → get nat_eq m p ≡ Some xs → xs ≡ ys ++ k ∷ []
    → get nat_eq n q ≡ (if nat_eq p q then Some ys else get nat_eq m q)
    → places_at m q ≡ (if nat_eq p q then places_at n q ++ k ∷ [] else places_at n q)
forgotten m n p q xs ys k is e h = either (nat_eq p q) refl h
  where
    either : (b : Bool) → nat_eq p q ≡ b → get nat_eq n q ≡ (if b then Some ys else get nat_eq m q)
        → places_at m q ≡ (if b then places_at n q ++ k ∷ [] else places_at n q)
    either true s h' = let same = eqb-true p q s in ap (λ o. unwrap_or o []) (ap (get nat_eq m) (sym same) ∙ is) ∙ e ∙ ap (λ o. unwrap_or o [] ++ k ∷ []) (sym h')
    either false s h' = ap (λ o. unwrap_or o []) (sym h')

-- what was taken from a list that isn't empty
pub taken : {X : Type 0} (xs ys : List X) (r : Option X) → (xs ≡ [] → ⊥) → xs ≡ ys ++ option_to_list r → IfNone r (xs ≡ []) → (x : X) × (xs ≡ ys ++ x ∷ [])
taken xs ys None some e h = absurd (some h)
taken xs ys (Some x) some e h = (x, e)

-- The places of those that pass a test.

-- one more at the end
places_where-append : {X : Type 0} (n : ℕ) (t : X → Bool) (xs : List X) (x : X)
    → places_where n t (xs ++ x ∷ []) ≡ (if t x then places_where n t xs ++ (n + length xs) ∷ [] else places_where n t xs)
places_where-append n t [] x = grind (arith, common_steps)
places_where-append n t (y ∷ xs) x = either (t y) (t x) (places_where-append (n + 1) t xs x)
  where
    place : (n + 1) + length xs ≡ n + suc (length xs)
    place = omega arith

    either : (a b : Bool) → places_where (n + 1) t (xs ++ x ∷ []) ≡ (if b then places_where (n + 1) t xs ++ ((n + 1) + length xs) ∷ [] else places_where (n + 1) t xs)
        → (if a then n ∷ places_where (n + 1) t (xs ++ x ∷ []) else places_where (n + 1) t (xs ++ x ∷ []))
        ≡ (if b then (if a then n ∷ places_where (n + 1) t xs else places_where (n + 1) t xs) ++ (n + suc (length xs)) ∷ [] else (if a then n ∷ places_where (n + 1) t xs else places_where (n + 1) t xs))
    either true true h = ap (λ ys. n ∷ ys) (h ∙ ap (λ k. places_where (n + 1) t xs ++ k ∷ []) place)
    either true false h = ap (λ ys. n ∷ ys) h
    either false true h = h ∙ ap (λ k. places_where (n + 1) t xs ++ k ∷ []) place
    either false false h = h

-- they rise, and are within
least_where : {X : Type 0} (n : ℕ) (t : X → Bool) (xs : List X) → All (λ k. n ≤ k) (places_where n t xs)
least_where n t [] = λ k d within. absurd (omega arith)
least_where n t (x ∷ xs) = either (t x) (All-weaker (λ k. n + 1 ≤ k) (λ k. n ≤ k) (λ k h. omega (arith, h)) (places_where (n + 1) t xs) (least_where (n + 1) t xs))
  where
    either : (b : Bool) → All (λ k. n ≤ k) (places_where (n + 1) t xs) → All (λ k. n ≤ k) (if b then n ∷ places_where (n + 1) t xs else places_where (n + 1) t xs)
    either true rest = All-cons (λ k. n ≤ k) n (places_where (n + 1) t xs) (omega arith) rest
    either false rest = rest

pub within_where : {X : Type 0} (n : ℕ) (t : X → Bool) (xs : List X) → All (λ k. k < n + length xs) (places_where n t xs)
within_where n t [] = λ k d within. absurd (omega arith)
within_where n t (x ∷ xs) =
    either (t x) (All-weaker (λ k. k < (n + 1) + length xs) (λ k. k < n + suc (length xs)) (λ k h. omega (arith, h)) (places_where (n + 1) t xs) (within_where (n + 1) t xs))
  where
    either : (b : Bool) → All (λ k. k < n + suc (length xs)) (places_where (n + 1) t xs)
        → All (λ k. k < n + suc (length xs)) (if b then n ∷ places_where (n + 1) t xs else places_where (n + 1) t xs)
    either true rest = All-cons (λ k. k < n + suc (length xs)) n (places_where (n + 1) t xs) (omega arith) rest
    either false rest = rest

rises-cons : (n : ℕ) (ks : List ℕ) → All (λ k. n ≤ k) ks → IsNonDecreasing ks → IsNonDecreasing (n ∷ ks)
rises-cons n ks least rest zero zero d le within = omega arith
rises-cons n ks least rest zero (suc j) d le within = least j d (omega (arith, within))
rises-cons n ks least rest (suc i) zero d le within = absurd (omega (arith, le))
rises-cons n ks least rest (suc i) (suc j) d le within = rest i j d (omega (arith, le)) (omega (arith, within))

pub rises_where : {X : Type 0} (n : ℕ) (t : X → Bool) (xs : List X) → IsNonDecreasing (places_where n t xs)
rises_where n t [] = λ i j d le within. absurd (omega arith)
rises_where n t (x ∷ xs) = either (t x) (rises_where (n + 1) t xs)
  where
    either : (b : Bool) → IsNonDecreasing (places_where (n + 1) t xs) → IsNonDecreasing (if b then n ∷ places_where (n + 1) t xs else places_where (n + 1) t xs)
    either true rest =
        rises-cons n (places_where (n + 1) t xs) (All-weaker (λ k. n + 1 ≤ k) (λ k. n ≤ k) (λ k h. omega (arith, h)) (places_where (n + 1) t xs) (least_where (n + 1) t xs)) rest
    either false rest = rest

-- what holds of all places holds of that of one that passes the test
pub place_where : {X : Type 0} (P : ℕ → Type 0) (n : ℕ) (t : X → Bool) (xs : List X) (i : ℕ) (x : X) → slice_get xs i ≡ Some x → t x ≡ true → All P (places_where n t xs) → P (n + i)
place_where P n t [] i x e passes all = cc
place_where P n t (y ∷ xs) zero x e passes all =
    let same : y ≡ x = cc in
    let here : All P (n ∷ places_where (n + 1) t xs) = subst (λ b. All P (if b then n ∷ places_where (n + 1) t xs else places_where (n + 1) t xs)) (ap t same ∙ passes) all in
    let place : n ≡ n + 0 = omega arith in
    subst P place (All-head P n (places_where (n + 1) t xs) here)
place_where P n t (y ∷ xs) (suc i) x e passes all =
    let place : (n + 1) + i ≡ n + suc i = omega arith in
    subst P place (place_where P (n + 1) t xs i x e passes (either (t y) all))
  where
    either : (b : Bool) → All P (if b then n ∷ places_where (n + 1) t xs else places_where (n + 1) t xs) → All P (places_where (n + 1) t xs)
    either true a = All-tail P n (places_where (n + 1) t xs) a
    either false a = a

-- An index after one more was put at the end and noted.

same_either_way : (a b : ℕ) → nat_eq a b ≡ nat_eq b a
same_either_way a b = either (nat_eq a b) (nat_eq b a) refl refl
  where
    either : (x y : Bool) → nat_eq a b ≡ x → nat_eq b a ≡ y → nat_eq a b ≡ nat_eq b a
    either true true e f = e ∙ sym f
    either false false e f = e ∙ sym f
    either true false e f = let same : a ≡ b = eqb-true a b e in subst (λ z. nat_eq a z ≡ nat_eq z a) same refl
    either false true e f = let same : b ≡ a = eqb-true b a f in subst (λ z. nat_eq z b ≡ nat_eq b z) same refl

module _ {X : Type 0} (f : X → ℕ) (xs : List X) (x : X) where
  IsIndexOf-append : (m n : Index) → IsIndexOf f xs m → Notes m (f x) (length xs) n → IsIndexOf f (xs ++ x ∷ []) n
  IsIndexOf-append m n h k q =
      let place : length xs ≡ 0 + length xs = omega arith in
      k q
      ∙ ap (λ ks. if nat_eq (f x) q then ks ++ length xs ∷ [] else ks) (h q)
      ∙ ap (λ b. if b then places_of f q xs ++ length xs ∷ [] else places_of f q xs) (same_either_way (f x) q)
      ∙ ap (λ i. if nat_eq q (f x) then places_of f q xs ++ i ∷ [] else places_of f q xs) place
      ∙ sym (places_where-append 0 (λ (y : X). nat_eq q (f y)) xs x)

  pub indexed : {C D : Type 0} (new : List X) (mark place : ℕ) (m n : Index) (s : Result C D) → IsIndexOf f xs m → new ≡ xs ++ x ∷ []
      → mark ≡ f x → place ≡ length xs → OnOk s (Notes m mark place n) → is_ok s ≡ true → IsIndexOf f new n
  indexed new mark place m n (Ok y) was is marks at notes ok =
      let noted_so : Notes m (f x) (length xs) n = subst (λ k. Notes m (f x) k n) at (subst (λ k. Notes m k place n) marks notes) in
      subst (λ ys. IsIndexOf f ys n) (sym is) (IsIndexOf-append m n was noted_so)
  indexed new mark place m n (Err e) was is marks at notes ok = absurd (cc)

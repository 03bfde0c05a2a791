-- Marks tell calls apart.
use Rattle.std.proofs.Common.{◌≡◌, ◌⊎◌, ℕ, zero, suc, ◌+◌, ◌<◌, ◌≤◌, Bool, true, false, inl, inr, if◌then◌else◌, ◌||◌, List, [], ◌∷◌, ◌++◌, map, length, take, get_or, refl, sym, ◌∙◌, ap, subst, arith}
use Rattle.std.specs.Prelude.{nat_eq}
use Rattle.std.specs.List.{list_any}
use Rattle.std.proofs.lemmas.Bool.{cases_lt}
use Rattle.std.proofs.lemmas.Bool.Decides.{Decides-eqb}
use Rattle.std.proofs.lemmas.List.{get_or-take, length-take-le}
use Rattle.std.proofs.lemmas.List.Folds.{list_any-append}
use Rattle.indexmap.specs.IndexSet.{insert_key}
use Rattle.apd_term.specs.Term.{Term, size, spell, variable}
use Rattle.apd_term.specs.declared.term.Sym.{Sym}
use Rattle.apd_term.specs.declared.term.Sym.TheVariants.{Var, Int, Fun}
use Rattle.apd_marks.specs.Keys.{key, part_of}
use Rattle.apd_marks.specs.declared.keys.KeyPart.{KeyPart}
use Rattle.apd_marks.specs.declared.keys.KeyPart.TheVariants.{Size}
use Rattle.apd_marks.proofs.Distinct.{key-injective}
use Rattle.apd_loop.specs.Keys.{mark, AreShared, HasSize, IsNoted}
use Rattle.apd_loop.proofs.EqualCalls.{not_both, Tells}

-- no symbol is a size
key-no_size : (xs : List Sym) (n : ℕ) → map part_of xs ≡ Size n ∷ [] → ⊥
key-no_size [] n e = absurd (cc)
key-no_size (Var v ∷ xs) n e = absurd (cc)
key-no_size (Int i ∷ xs) n e = absurd (cc)
key-no_size (Fun f k ∷ xs) n e = absurd (cc)

mark-tells : (ns : List ℕ) (q p : Term) → (size p ≡ size q → HasSize ns (size q)) → mark ns q ≡ mark ns p → q ≡ p
mark-tells ns q p h e = by (list_any (nat_eq (size q)) ns) refl (list_any (nat_eq (size p)) ns) refl e
  where
    by : (a : Bool) → list_any (nat_eq (size q)) ns ≡ a → (b : Bool) → list_any (nat_eq (size p)) ns ≡ b → (if a then key q else Size (size q) ∷ []) ≡ (if b then key p else Size (size p) ∷ []) → q ≡ p
    by true x true y e = key-injective q p e
    by true x false y e = absurd (key-no_size (spell q) (size p) e)
    by false x true y e = absurd (key-no_size (spell p) (size q) (sym e))
    by false x false y e = let s : size p ≡ size q = cc in absurd (not_both (list_any (nat_eq (size q)) ns) (h s) x)

each : (m : Term → List KeyPart) (q : Term) (ps : List Term) → ((j : ℕ) → j < length ps → m q ≡ m (get_or ps j (variable 0)) → q ≡ get_or ps j (variable 0)) → Tells m q ps
each m q [] h = tt
each m q (p ∷ ps) h = (h zero (omega arith), each m q ps (λ j l. h (suc j) (omega (arith, l))))

pub tells-all : (ns : List ℕ) (calls : List Term) (i : ℕ) → AreShared ns calls → i < length calls → Tells (mark ns) (get_or calls i (variable 0)) (take i calls)
tells-all ns calls i h l = each (mark ns) (get_or calls i (variable 0)) (take i calls) (λ j k. one j k)
  where
    one : (j : ℕ) → j < length (take i calls) → mark ns (get_or calls i (variable 0)) ≡ mark ns (get_or (take i calls) j (variable 0)) → get_or calls i (variable 0) ≡ get_or (take i calls) j (variable 0)
    one j k =
        let n : length (take i calls) ≡ i = length-take-le i calls (omega (arith, l)) in
        let m : j < i = omega (arith, k, n) in
        subst (λ t. mark ns (get_or calls i (variable 0)) ≡ mark ns t → get_or calls i (variable 0) ≡ t) (sym (get_or-take i calls j (variable 0) m))
        (mark-tells ns (get_or calls i (variable 0)) (get_or calls j (variable 0)) (h j i m l))

-- sizes that are put among others
inserted : (ks : List ℕ) (n : ℕ) → HasSize (insert_key nat_eq ks n) n
inserted ks n = by (list_any (nat_eq n) ks) refl
  where
    by : (b : Bool) → list_any (nat_eq n) ks ≡ b → list_any (nat_eq n) (if b then ks else ks ++ n ∷ []) ≡ true
    by true e = e
    by false e =
        list_any-append (nat_eq n) ks (n ∷ [])
        ∙ ap (λ b. b || (nat_eq n n || false)) e
        ∙ ap (λ b. false || (b || false)) ((Decides-eqb n n).1 refl)

still : (ks : List ℕ) (n m : ℕ) → HasSize ks m → HasSize (insert_key nat_eq ks n) m
still ks n m h = by (list_any (nat_eq n) ks)
  where
    by : (b : Bool) → list_any (nat_eq m) (if b then ks else ks ++ n ∷ []) ≡ true
    by true = h
    by false = list_any-append (nat_eq m) ks (n ∷ []) ∙ ap (λ b. b || list_any (nat_eq m) (n ∷ [])) h

pub noted_again : (n : ℕ) (seen shared shared' : List ℕ) → HasSize seen n → shared' ≡ insert_key nat_eq shared n → IsNoted n seen shared seen shared'
noted_again n seen shared shared' h e = record {
  here = h;
  kept = λ m k. k;
  again = λ k. subst (λ ks. HasSize ks n) (sym e) (inserted shared n);
  more = λ m k. subst (λ ks. HasSize ks m) (sym e) (still shared n m k);
}

pub noted_first : (n : ℕ) (seen shared seen' : List ℕ) → list_any (nat_eq n) seen ≡ false → seen' ≡ insert_key nat_eq seen n → IsNoted n seen shared seen' shared
noted_first n seen shared seen' h e = record {
  here = subst (λ ks. HasSize ks n) (sym e) (inserted seen n);
  kept = λ m k. subst (λ ks. HasSize ks m) (sym e) (still seen n m k);
  again = λ k. absurd (not_both (list_any (nat_eq n) seen) k h);
  more = λ m k. k;
}

-- the sizes of the first calls
abbrev pub size_at : List Term → ℕ → ℕ
size_at calls i = size (get_or calls i (variable 0))

abbrev pub AreSeen : List ℕ → List Term → ℕ → Type 0
AreSeen seen calls i = (j : ℕ) → j < i → HasSize seen (size_at calls j)

abbrev pub AreSharedTo : List ℕ → List Term → ℕ → Type 0
AreSharedTo shared calls i = (j k : ℕ) → j < k → k < i → size_at calls j ≡ size_at calls k → HasSize shared (size_at calls k)

pub seen_next : (calls : List Term) (i n : ℕ) (seen shared seen' shared' : List ℕ) → n ≡ size_at calls i → IsNoted n seen shared seen' shared' → AreSeen seen calls i → AreSeen seen' calls (i + 1)
seen_next calls i n seen shared seen' shared' e noted h j l = by (cases_lt j i)
  where
    by : (j < i) ⊎ (i ≤ j) → HasSize seen' (size_at calls j)
    by (inl m) = noted.kept (size_at calls j) (h j m)
    by (inr m) = let s : i ≡ j = omega (arith, l, m) in subst (HasSize seen') (e ∙ ap (size_at calls) s) noted.here

pub shared_next : (calls : List Term) (i n : ℕ) (seen shared seen' shared' : List ℕ) → n ≡ size_at calls i → IsNoted n seen shared seen' shared' → AreSeen seen calls i → AreSharedTo shared calls i
    → AreSharedTo shared' calls (i + 1)
shared_next calls i n seen shared seen' shared' e noted all h j k l r is = by (cases_lt k i)
  where
    by : (k < i) ⊎ (i ≤ k) → HasSize shared' (size_at calls k)
    by (inl m) = noted.more (size_at calls k) (h j k l m is)
    by (inr m) =
        let s : i ≡ k = omega (arith, r, m) in
        let here : n ≡ size_at calls k = e ∙ ap (size_at calls) s in
        subst (HasSize shared') here (noted.again (subst (HasSize seen) (is ∙ sym here) (all j (omega (arith, l, s)))))

-- What holds of each of the elements of a list, looked at one after the other.
use Rattle.std.proofs.Common.{◌≡◌, ◌↔◌, ◌⊎◌, inl, inr, ◌<◌, ◌≤◌, ◌+◌, ℕ, zero, suc, Bool, true, false, List, ◌∷◌, length, drop, get_or, refl, sym, ap, subst, ◌∙◌, arith}
use Rattle.std.specs.List.{AllByRecursion}
use Rattle.std.proofs.lemmas.List.{drop_all, drop_more}

module _ {X : Type 0} (P : X → Type 0) where
  each-step : (xs : List X) (i : ℕ) (x : X) → i < length xs → x ≡ get_or xs i x → AllByRecursion P (drop i xs) ↔ (P x × AllByRecursion P (drop (i + 1) xs))
  each-step xs i x l is =
      let d = drop_more xs i x l in
      let one : drop i xs ≡ x ∷ drop (i + 1) xs = cc in
      rw one (λ h. h, λ h. h)

  pub each-fails : (xs : List X) (i : ℕ) (x : X) (b : Bool) → AllByRecursion P xs ↔ AllByRecursion P (drop i xs) → i < length xs → x ≡ get_or xs i x → b ≡ true ↔ P x → b ≡ false
      → false ≡ true ↔ AllByRecursion P xs
  each-fails xs i x b so_far l is test fails = (
    λ k. absurd (cc),
    λ all. absurd (let h = (each-step xs i x l is).0 (so_far.0 all) in let t : true ≡ false = sym (test.1 h.0) ∙ fails in cc),
  )

  pub each-goes : (xs : List X) (i : ℕ) (x : X) (b : Bool) → AllByRecursion P xs ↔ AllByRecursion P (drop i xs) → i < length xs → x ≡ get_or xs i x → b ≡ true ↔ P x → b ≡ true
      → AllByRecursion P xs ↔ AllByRecursion P (drop (i + 1) xs)
  each-goes xs i x b so_far l is test goes = (
    λ all. ((each-step xs i x l is).0 (so_far.0 all)).1,
    λ rest. so_far.1 ((each-step xs i x l is).1 (test.0 goes, rest)),
  )

  pub each-ends : (xs : List X) (i : ℕ) → AllByRecursion P xs ↔ AllByRecursion P (drop i xs) → length xs ≤ i → true ≡ true ↔ AllByRecursion P xs
  each-ends xs i so_far l = (λ k. so_far.1 (rw (drop_all i xs l) tt), λ k. refl)

-- places looked at one after the other
pub none-more : (P : ℕ → Type 0) (i : ℕ) → ((j : ℕ) → j < i → ¬ P j) → ¬ P i → (j : ℕ) → j < i + 1 → ¬ P j
none-more P i before here j l = by j (least j i l)
  where
    least : (j i : ℕ) → j < i + 1 → (j ≡ i) ⊎ (j < i)
    least zero zero l = inl refl
    least zero (suc i) l = inr (omega arith)
    least (suc j) zero l = absurd (omega (arith, l))
    least (suc j) (suc i) l = elim (least j i (omega (arith, l))) [ inl e ↦ inl (ap suc e) | inr k ↦ inr (omega (arith, k)) ]

    by : (j : ℕ) → (j ≡ i) ⊎ (j < i) → ¬ P j
    by j (inl e) h = here (subst P e h)
    by j (inr k) h = before j k h

-- a test that fails
pub fails-not : (b : Bool) (P : Type 0) → b ≡ false → b ≡ true ↔ P → ¬ P
fails-not b P e h k = let f : false ≡ true = sym e ∙ h.1 k in absurd (cc)

-- Rows that have one of some numbers.
use Rattle.std.proofs.Common.{◌≡◌, ◌⊎◌, ◌↔◌, inl, inr, ℕ, zero, suc, ◌+◌, ◌<◌, ◌≤◌, true, false, List, [], ◌∷◌, length, drop, get_or, refl, sym, ◌∙◌, ap, subst, arith}
use Rattle.std.proofs.lemmas.List.{drop_more, drop_all}
use Rattle.apd_term.specs.Term.{IsAmong}
use Rattle.apd_bits.specs.Rows.{HasBit, has_bit}
use Rattle.apd_bits.proofs.Lists.{among-at}
use Rattle.apd_findings.specs.Reaching.{HasSome}

-- an element that is there doesn't depend on the default
pub at-default : {X : Type 0} (xs : List X) (i : ℕ) (x d : X) → i < length xs → x ≡ get_or xs i x → x ≡ get_or xs i d
at-default [] i x d l e = absurd (omega (arith, l))
at-default (y ∷ xs) zero x d l e = e
at-default (y ∷ xs) (suc i) x d l e = at-default xs i x d (omega (arith, l)) e

-- The row has the bit of one of some numbers.

module _ (row : List ℕ) where
  pub some-found : (xs : List ℕ) (i x : ℕ) → i < length xs → x ≡ get_or xs i 0 → has_bit row x ≡ true → true ≡ true ↔ HasSome row xs
  some-found xs i x l e b = (λ k. (x, among-at xs i x l e, b), λ k. refl)

  pub some-passed : (xs : List ℕ) (i x : ℕ) → i < length xs → x ≡ get_or xs i 0 → has_bit row x ≡ false → HasSome row xs ↔ HasSome row (drop i xs) → HasSome row xs ↔ HasSome row (drop (i + 1) xs)
  some-passed xs i x l e b so_far = (λ s. later (so_far.0 s), λ s. so_far.1 (earlier s))
    where
      is : drop i xs ≡ x ∷ drop (i + 1) xs
      is = drop_more xs i 0 l ∙ ap (λ y. y ∷ drop (i + 1) xs) (sym e)

      pass : (n : ℕ) → (x ≡ n) ⊎ IsAmong (drop (i + 1) xs) n → HasBit row n → IsAmong (drop (i + 1) xs) n
      pass n (inl k) g = absurd (let t : true ≡ false = sym g ∙ ap (has_bit row) (sym k) ∙ b in cc)
      pass n (inr a) g = a

      later : HasSome row (drop i xs) → HasSome row (drop (i + 1) xs)
      later s = (s.0, pass s.0 (subst (λ ys. IsAmong ys s.0) is s.1) s.2, s.2)

      earlier : HasSome row (drop (i + 1) xs) → HasSome row (drop i xs)
      earlier s = (s.0, subst (λ ys. IsAmong ys s.0) (sym is) (inr s.1), s.2)

  pub none-found : (xs : List ℕ) (i : ℕ) → length xs ≤ i → HasSome row xs ↔ HasSome row (drop i xs) → false ≡ true ↔ HasSome row xs
  none-found xs i l so_far = (λ k. absurd (cc), λ s. absurd (let none : HasSome row [] = subst (HasSome row) (drop_all i xs l) (so_far.0 s) in none.1))

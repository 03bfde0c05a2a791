-- Lists that are walked.
use Rattle.std.proofs.Common.{◌≡◌, ◌⊎◌, inl, inr, ◌+◌, ◌<◌, ◌++◌, ℕ, zero, suc, List, [], ◌∷◌, length, take, get_or, sym, ap, ◌∙◌, subst, arith}
use Rattle.std.proofs.lemmas.List.{take_more}
use Rattle.apd_term.specs.Term.{IsAmong}
use Rattle.apd_term.proofs.Among.{IsAmong-append}

pub among-at : (xs : List ℕ) (i n : ℕ) → i < length xs → n ≡ get_or xs i 0 → IsAmong xs n
among-at [] i n l e = absurd (omega (arith, l))
among-at (x ∷ xs) zero n l e = inl (sym e)
among-at (x ∷ xs) (suc i) n l e = inr (among-at xs i n (omega (arith, l)) e)

pub among-more : (xs : List ℕ) (i x : ℕ) → i < length xs → x ≡ get_or xs i 0 → (k : ℕ) → IsAmong (take (i + 1) xs) k → IsAmong (take i xs) k ⊎ (x ≡ k)
among-more xs i x l is k h =
    elim (IsAmong-append (take i xs) (x ∷ []) k (subst (λ (ys : List ℕ). IsAmong ys k) (take_more xs i 0 l ∙ ap (λ y. take i xs ++ y ∷ []) (sym is)) h)) [
      | inl g ↦ inl g
      | inr g ↦ elim g [ inl e ↦ inr e | inr z ↦ absurd z ]
    ]

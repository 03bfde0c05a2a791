-- Bits of words that are joined.
use Rattle.std.proofs.Common.{◌≡◌, ◌≢◌, ◌⊎◌, inl, inr, ℕ, zero, suc, ◌/◌, ◌%◌, ◌<◌, ◌≤◌, List, length, get_or, set, sym, ap, ◌∙◌, subst, arith, eq-eqb}
use Rattle.std.specs.Prelude.{bit_or}
use Rattle.std.specs.Int.{bit_at}
use Rattle.std.proofs.lemmas.Bool.{eqb-true}
use Rattle.std.proofs.lemmas.Bool.Decides.{eqb_tells}
use Rattle.std.proofs.lemmas.List.{get_or-set_other, get_or-set_same}
use Rattle.std.proofs.lemmas.Nat.Bits.{bit_at-lt, bit_at-zero, bit_at_or}
use Rattle.apd_bits.specs.Rows.{HasBit, IsWithin}
use Rattle.apd_bits.proofs.Bits.{IsSet, past-end}

or-left : (a b bit : ℕ) → IsSet a bit → IsSet (bit_or a b) bit
or-left a b bit h = eq-eqb (bit_at (bit_or a b) bit) 1 (let e = eqb-true (bit_at a bit) 1 h in let o = bit_at_or a b bit in let l = bit_at-lt b bit in omega (arith, e, o, l))

or-right : (a b bit : ℕ) → IsSet b bit → IsSet (bit_or a b) bit
or-right a b bit h = eq-eqb (bit_at (bit_or a b) bit) 1 (let e = eqb-true (bit_at b bit) 1 h in let o = bit_at_or a b bit in let l = bit_at-lt a bit in omega (arith, e, o, l))

or-either : (a b bit : ℕ) → IsSet (bit_or a b) bit → IsSet a bit ⊎ IsSet b bit
or-either a b bit h = elim (eqb_tells (bit_at a bit) 1) [
  | inl e ↦ inl e.0
  | inr n ↦ inr (eq-eqb (bit_at b bit) 1
      (let m = n.1 in let e = eqb-true (bit_at (bit_or a b) bit) 1 h in let o = bit_at_or a b bit in let k = bit_at-lt a bit in let l = bit_at-lt b bit in omega (arith, m, e, o, k, l)))
]

-- the bits of one word are joined
module _ (words other : List ℕ) (i : ℕ) (l : i < length words) where
  abbrev joined : List ℕ
  joined = set words i (bit_or (get_or words i 0) (get_or other i 0))

  there : (k : ℕ) → k / 64 ≡ i → get_or joined (k / 64) 0 ≡ bit_or (get_or words i 0) (get_or other i 0)
  there k e = ap (λ (j : ℕ). get_or joined j 0) e ∙ get_or-set_same words i (bit_or (get_or words i 0) (get_or other i 0)) 0 l

  elsewhere : (k : ℕ) → k / 64 ≢ i → get_or joined (k / 64) 0 ≡ get_or words (k / 64) 0
  elsewhere k n = get_or-set_other words i (k / 64) (bit_or (get_or words i 0) (get_or other i 0)) 0 n

  pub join-still : IsWithin words joined
  join-still k h = elim (eqb_tells (k / 64) i) [
    | inl e ↦ subst (λ (w : ℕ). IsSet w (k % 64)) (sym (there k e.1)) (or-left (get_or words i 0) (get_or other i 0) (k % 64) (subst (λ (j : ℕ). IsSet (get_or words j 0) (k % 64)) e.1 h))
    | inr n ↦ subst (λ (w : ℕ). IsSet w (k % 64)) (sym (elsewhere k n.1)) h
  ]

  pub join-put : (k : ℕ) → k / 64 ≡ i → HasBit other k → HasBit joined k
  join-put k e h = subst (λ (w : ℕ). IsSet w (k % 64)) (sym (there k e)) (or-right (get_or words i 0) (get_or other i 0) (k % 64) (subst (λ (j : ℕ). IsSet (get_or other j 0) (k % 64)) e h))

  pub join-only : (k : ℕ) → HasBit joined k → HasBit words k ⊎ HasBit other k
  join-only k h = elim (eqb_tells (k / 64) i) [
    | inl e ↦ elim (or-either (get_or words i 0) (get_or other i 0) (k % 64) (subst (λ (w : ℕ). IsSet w (k % 64)) (there k e.1) h)) [
      | inl b ↦ inl (subst (λ (j : ℕ). IsSet (get_or words j 0) (k % 64)) (sym e.1) b)
      | inr b ↦ inr (subst (λ (j : ℕ). IsSet (get_or other j 0) (k % 64)) (sym e.1) b)
    ]
    | inr n ↦ inl (subst (λ (w : ℕ). IsSet w (k % 64)) (elsewhere k n.1) h)
  ]

-- a bit that is set stands in a word that is there
pub bit-within : (words : List ℕ) (k : ℕ) → HasBit words k → k / 64 < length words
bit-within words k h = elim (before (k / 64) (length words)) [
  | inl l ↦ l
  | inr m ↦ absurd (let e = eqb-true (bit_at (get_or words (k / 64) 0) (k % 64)) 1 h in let z = ap (λ (w : ℕ). bit_at w (k % 64)) (past-end words (k / 64) m) ∙ bit_at-zero (k % 64) in omega (arith, e, z))
]
  where
    before : (a b : ℕ) → (a < b) ⊎ (b ≤ a)
    before zero zero = inr (omega arith)
    before zero (suc b) = inl (omega arith)
    before (suc a) zero = inr (omega arith)
    before (suc a) (suc b) = elim (before a b) [ inl w ↦ inl (omega (arith, w)) | inr p ↦ inr (omega (arith, p)) ]

-- Bits of a row that are set, and that are left.
use Rattle.std.proofs.Common.{◌≡◌, ◌≢◌, ◌⊎◌, inl, inr, ℕ, zero, suc, ◌+◌, ◌*◌, ◌/◌, ◌%◌, ◌^◌, ◌<◌, ◌≤◌, ◌==◌, ◌++◌, min, true, List, [], ◌∷◌, length, get_or, set, refl, sym, ap, ◌∙◌, subst, arith, eq-eqb}
use Rattle.std.specs.Prelude.{bit_and, bit_or, bit_xor}
use Rattle.std.specs.Int.{bit_at, bit_not, w64}
use Rattle.std.proofs.lemmas.Bool.{eqb-true}
use Rattle.std.proofs.lemmas.Bool.Decides.{eqb_tells}
use Rattle.std.proofs.lemmas.List.{get_or-set_other, get_or-set_same}
use Rattle.std.proofs.lemmas.Nat.Bits.{bit_at-lt, bit_at-zero, bit_at_and, bit_at_clear_other, bit_at_set_other, bit_at_set_same, bit_at_xor}
use Rattle.apd_bits.specs.Rows.{HasBit, HasNoBits, IsWithin, IsWithinBut}

-- A bit of a word.

abbrev pub IsSet : ℕ → ℕ → Type 0
IsSet word bit = (bit_at word bit == 1) ≡ true

-- the word where this bit is set
abbrev with_bit : ℕ → ℕ → ℕ
with_bit word bit = bit_or word (1 * 2 ^ bit % 2 ^ 64)

bit-set : (word bit : ℕ) → bit < 64 → IsSet (with_bit word bit) bit
bit-set word bit l = eq-eqb (bit_at (with_bit word bit) bit) 1 (bit_at_set_same w64 word bit l)

bit-still : (word bit other : ℕ) → bit < 64 → IsSet word other → IsSet (with_bit word bit) other
bit-still word bit other l h = elim (eqb_tells other bit) [
  | inl e ↦ subst (IsSet (with_bit word bit)) (sym e.1) (bit-set word bit l)
  | inr n ↦ subst (λ (d : ℕ). (d == 1) ≡ true) (sym (bit_at_set_other w64 word bit l other n.1)) h
]

bit-both : (a b bit : ℕ) → IsSet a bit → IsSet b bit → IsSet (bit_and a b) bit
bit-both a b bit g h =
    eq-eqb (bit_at (bit_and a b) bit) 1
    (bit_at_and a b bit ∙ ap (λ x. min x (bit_at b bit)) (eqb-true (bit_at a bit) 1 g) ∙ ap (λ y. min 1 y) (eqb-true (bit_at b bit) 1 h))

within : (k : ℕ) → k % 64 < 64
within k = omega arith

-- A row with another word at a place.

module _ (words : List ℕ) (i word k : ℕ) (l : i < length words) where
  here : k / 64 ≡ i → IsSet word (k % 64) → HasBit (set words i word) k
  here e h = subst (λ (w : ℕ). IsSet w (k % 64)) (sym (ap (λ (j : ℕ). get_or (set words i word) j 0) e ∙ get_or-set_same words i word 0 l)) h

  there : k / 64 ≢ i → HasBit words k → HasBit (set words i word) k
  there n h = subst (λ (w : ℕ). IsSet w (k % 64)) (sym (get_or-set_other words i (k / 64) word 0 n)) h

  either : (HasBit words k → IsSet (get_or words i 0) (k % 64) → IsSet word (k % 64)) → HasBit words k → HasBit (set words i word) k
  either f h = elim (eqb_tells (k / 64) i) [
    | inl e ↦ here e.1 (f h (subst (λ (j : ℕ). IsSet (get_or words j 0) (k % 64)) e.1 h))
    | inr n ↦ there n.1 h
  ]

-- the bit of a place is set
module _ (words : List ℕ) (place : ℕ) (l : place / 64 < length words) where
  abbrev changed : List ℕ
  changed = set words (place / 64) (with_bit (get_or words (place / 64) 0) (place % 64))

  pub bit-put : HasBit changed place
  bit-put = here words (place / 64) (with_bit (get_or words (place / 64) 0) (place % 64)) place l refl (bit-set (get_or words (place / 64) 0) (place % 64) (within place))

  pub bits-still : IsWithin words changed
  bits-still k h =
      either words (place / 64) (with_bit (get_or words (place / 64) 0) (place % 64)) k l (λ g s. bit-still (get_or words (place / 64) 0) (place % 64) (k % 64) (within place) s) h

  pub bits-only : IsWithinBut changed words place
  bits-only k h = elim (eqb_tells k place) [
    | inl e ↦ inr e.1
    | inr n ↦ inl (elim (eqb_tells (k / 64) (place / 64)) [
      | inl e ↦ same-word e.1 (λ f. n.1 (same-place e.1 f))
      | inr m ↦ subst (λ (w : ℕ). IsSet w (k % 64)) (get_or-set_other words (place / 64) (k / 64) (with_bit (get_or words (place / 64) 0) (place % 64)) 0 m.1) h
    ])
  ]
    where
      same-place : k / 64 ≡ place / 64 → k % 64 ≡ place % 64 → k ≡ place
      same-place e f = omega (arith, e, f)

      same-word : k / 64 ≡ place / 64 → k % 64 ≢ place % 64 → HasBit words k
      same-word e n =
          let now : IsSet (with_bit (get_or words (place / 64) 0) (place % 64)) (k % 64) =
          subst (λ (w : ℕ). IsSet w (k % 64)) (ap (λ (j : ℕ). get_or changed j 0) e ∙ get_or-set_same words (place / 64) (with_bit (get_or words (place / 64) 0) (place % 64)) 0 l) h in
          subst (λ (j : ℕ). IsSet (get_or words j 0) (k % 64)) (sym e)
          (subst (λ (d : ℕ). (d == 1) ≡ true) (bit_at_set_other w64 (get_or words (place / 64) 0) (place % 64) (within place) (k % 64) n) now)

-- the bits of a word are left that another row has too
pub bits-met : (words other : List ℕ) (i k : ℕ) → i < length words → HasBit words k → HasBit other k → HasBit (set words i (bit_and (get_or words i 0) (get_or other i 0))) k
bits-met words other i k l h o = elim (eqb_tells (k / 64) i) [
  | inl e ↦ here words i (bit_and (get_or words i 0) (get_or other i 0)) k l e.1
      (bit-both (get_or words i 0) (get_or other i 0) (k % 64) (subst (λ (j : ℕ). IsSet (get_or words j 0) (k % 64)) e.1 h) (subst (λ (j : ℕ). IsSet (get_or other j 0) (k % 64)) e.1 o))
  | inr n ↦ there words i (bit_and (get_or words i 0) (get_or other i 0)) k l n.1 h
]

bit-but : (a b bit : ℕ) → IsSet a bit → ¬ IsSet b bit → IsSet (bit_and a (bit_xor a b)) bit
bit-but a b bit g n =
    eq-eqb (bit_at (bit_and a (bit_xor a b)) bit) 1
    (bit_at_and a (bit_xor a b) bit ∙ ap (λ x. min x (bit_at (bit_xor a b) bit)) one ∙ ap (λ y. min 1 y) (bit_at_xor a b bit ∙ ap (λ x. (x + bit_at b bit) % 2) one ∙ ap (λ y. (1 + y) % 2) none))
  where
    one : bit_at a bit ≡ 1
    one = eqb-true (bit_at a bit) 1 g

    none : bit_at b bit ≡ 0
    none = elim (eqb_tells (bit_at b bit) 1) [ inl e ↦ absurd (n e.0) | inr m ↦ let l = bit_at-lt b bit in let d = m.1 in omega (arith, l, d) ]

-- the bits of a word are left that another row hasn't
pub bits-left-out : (words other : List ℕ) (i k : ℕ) → i < length words → HasBit words k → ¬ HasBit other k → HasBit (set words i (bit_and (get_or words i 0) (bit_xor (get_or words i 0) (get_or other i 0)))) k
bits-left-out words other i k l h n = elim (eqb_tells (k / 64) i) [
  | inl e ↦ here words i (bit_and (get_or words i 0) (bit_xor (get_or words i 0) (get_or other i 0))) k l e.1
      (bit-but (get_or words i 0) (get_or other i 0) (k % 64) (subst (λ (j : ℕ). IsSet (get_or words j 0) (k % 64)) e.1 h) (λ o. n (subst (λ (j : ℕ). IsSet (get_or other j 0) (k % 64)) (sym e.1) o)))
  | inr m ↦ there words i (bit_and (get_or words i 0) (bit_xor (get_or words i 0) (get_or other i 0))) k l m.1 h
]

-- the bits of other places are left where a place's bit is cleared
pub bits-cleared : (words : List ℕ) (place k : ℕ) → place / 64 < length words → k ≢ place → HasBit words k → HasBit (set words (place / 64) (bit_and (get_or words (place / 64) 0) (bit_not w64 (1 * 2 ^ (place % 64) % 2 ^ 64)))) k
bits-cleared words place k l n h = elim (eqb_tells (k / 64) (place / 64)) [
  | inl e ↦
      let other : k % 64 ≢ place % 64 = λ same. n (omega (arith, e.1, same)) in
      here words (place / 64) (bit_and (get_or words (place / 64) 0) (bit_not w64 (1 * 2 ^ (place % 64) % 2 ^ 64))) k l e.1
      (subst (λ (d : ℕ). (d == 1) ≡ true) (sym (bit_at_clear_other w64 (get_or words (place / 64) 0) (place % 64) (within place) (k % 64) (within k) other))
      (subst (λ (j : ℕ). IsSet (get_or words j 0) (k % 64)) e.1 h))
  | inr m ↦ there words (place / 64) (bit_and (get_or words (place / 64) 0) (bit_not w64 (1 * 2 ^ (place % 64) % 2 ^ 64))) k l m.1 h
]

-- A row without bits.

-- so many words are zero
abbrev pub AreZeros : List ℕ → ℕ → Type 0
AreZeros words i = (j : ℕ) → j < i → get_or words j 0 ≡ 0

pub zeros-go : (words : List ℕ) (i : ℕ) → get_or words i 0 ≡ 0 → AreZeros words i → AreZeros words (i + 1)
zeros-go words i here so_far j l = elim (eqb_tells j i) [
  | inl e ↦ ap (λ (k : ℕ). get_or words k 0) e.1 ∙ here
  | inr n ↦ let earlier : j < i = omega (arith, l, n.1) in so_far j earlier
]

pub past-end : (words : List ℕ) (j : ℕ) → length words ≤ j → get_or words j 0 ≡ 0
past-end [] zero l = refl
past-end [] (suc j) l = refl
past-end (w ∷ words) zero l = absurd (omega (arith, l))
past-end (w ∷ words) (suc j) l = past-end words j (omega (arith, l))

pub all-clear : (words : List ℕ) (i : ℕ) → length words ≤ i → AreZeros words i → HasNoBits words
all-clear words i l zeros k h =
    let e = eqb-true (bit_at (get_or words (k / 64) 0) (k % 64)) 1 h in
    let z = ap (λ (word : ℕ). bit_at word (k % 64)) nothing ∙ bit_at-zero (k % 64) in
    omega (arith, e, z)
  where
    nothing : get_or words (k / 64) 0 ≡ 0
    nothing = elim (within-or-past (k / 64) (length words)) [ inl w ↦ zeros (k / 64) (omega (arith, w, l)) | inr p ↦ past-end words (k / 64) p ]
      where
        within-or-past : (a b : ℕ) → (a < b) ⊎ (b ≤ a)
        within-or-past zero zero = inr (omega arith)
        within-or-past zero (suc b) = inl (omega arith)
        within-or-past (suc a) zero = inr (omega arith)
        within-or-past (suc a) (suc b) = elim (within-or-past a b) [ inl w ↦ inl (omega (arith, w)) | inr p ↦ inr (omega (arith, p)) ]

-- A row that is longer.

zero-behind : (words : List ℕ) (i : ℕ) → get_or (words ++ 0 ∷ []) i 0 ≡ get_or words i 0
zero-behind [] zero = refl
zero-behind [] (suc i) = refl
zero-behind (w ∷ words) zero = refl
zero-behind (w ∷ words) (suc i) = zero-behind words i

pub longer-has : (words new : List ℕ) → new ≡ words ++ 0 ∷ [] → IsWithin words new
longer-has words new e k h = subst (λ (ws : List ℕ). HasBit ws k) (sym e) (subst (λ (w : ℕ). IsSet w (k % 64)) (sym (zero-behind words (k / 64))) h)

pub longer-only : (words new : List ℕ) → new ≡ words ++ 0 ∷ [] → IsWithin new words
longer-only words new e k h = subst (λ (w : ℕ). IsSet w (k % 64)) (zero-behind words (k / 64)) (subst (λ (ws : List ℕ). HasBit ws k) e h)

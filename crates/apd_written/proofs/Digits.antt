-- The digits of a number, of whatever size.
use Rattle.std.proofs.Common.{◌≡◌, ℕ, zero, suc, ◌<◌, List, [], ◌∷◌, length, refl, arith, Bool, true, false}
use Rattle.std.specs.Prelude.{◌==◌, ◌+◌, ◌/◌, ◌%◌, if◌then◌else◌, nat_lt}
use Rattle.std.specs.Fmt.{decimal, digits, digits_onto, digit_glyph}
use Rattle.std.specs.Int.{IsInRange as IsDigitByte}
use Rattle.std.proofs.lemmas.Bool.{ltb-false, ltb-true}

abbrev pub AllDigitBytes : List ℕ → Type 0
AllDigitBytes [] = Unit {0}
AllDigitBytes (b ∷ bs) = IsDigitByte 48 57 b × AllDigitBytes bs

glyph-digit : (n : ℕ) → IsDigitByte 48 57 (digit_glyph false (n % 10))
glyph-digit n = by (nat_lt (n % 10) 10) refl
  where
    by : (c : Bool) → nat_lt (n % 10) 10 ≡ c → IsDigitByte 48 57 (if c then 48 + n % 10 else 87 + n % 10)
    by true e = let l = ltb-true (n % 10) 10 e in (omega (arith, l), omega (arith, l))
    by false e = let l = ltb-false (n % 10) 10 e in absurd (omega (arith, l))

either_digits : (c : Bool) (xs ys : List ℕ) → AllDigitBytes xs → AllDigitBytes ys → AllDigitBytes (if c then xs else ys)
either_digits true xs ys h k = h
either_digits false xs ys h k = k

either_some : (c : Bool) (xs ys : List ℕ) → 0 < length xs → 0 < length ys → 0 < length (if c then xs else ys)
either_some true xs ys h k = h
either_some false xs ys h k = k

onto-digits : (k n : ℕ) (acc : List ℕ) → AllDigitBytes acc → AllDigitBytes (digits_onto k 10 false n acc)
onto-digits zero n acc h = h
onto-digits (suc k) n acc h =
    let more = digit_glyph false (n % 10) ∷ acc in either_digits (n / 10 == 0) more (digits_onto k 10 false (n / 10) more) (glyph-digit n, h) (onto-digits k (n / 10) more (glyph-digit n, h))

onto-some : (k n x : ℕ) (acc : List ℕ) → 0 < length (digits_onto k 10 false n (x ∷ acc))
onto-some zero n x acc = omega arith
onto-some (suc k) n x acc =
    let g = digit_glyph false (n % 10) in either_some (n / 10 == 0) (g ∷ x ∷ acc) (digits_onto k 10 false (n / 10) (g ∷ x ∷ acc)) (omega arith) (onto-some k (n / 10) g (x ∷ acc))

first-some : (k n : ℕ) → 0 < length (digits_onto (suc k) 10 false n [])
first-some k n = let g = digit_glyph false (n % 10) in either_some (n / 10 == 0) (g ∷ []) (digits_onto k 10 false (n / 10) (g ∷ [])) (omega arith) (onto-some k (n / 10) g [])

pub decimal-digits : (n : ℕ) → AllDigitBytes (decimal n)
unfolding digits
decimal-digits n = onto-digits 64 n [] tt

pub decimal-some : (n : ℕ) → 0 < length (decimal n)
unfolding digits
decimal-some n = first-some 63 n

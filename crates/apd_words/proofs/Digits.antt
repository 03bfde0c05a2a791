-- What a word of digits is read as.
use Rattle.std.proofs.Common.{rules, ◌≡◌, ℕ, ◌<◌, ◌≤◌, ◌^◌, ◌&&◌, List, length, refl, ap, arith, Bool, true, false, Option, None, Some, Result, Ok, Err, subst}
use Rattle.std.proofs.lemmas.Str.Parse.{IsNumeralModel, numerals_by_value, digits_value_short, parse_digits}
use Rattle.std.proofs.lemmas.Bool.{leb-true, and_parts}
use Rattle.std.specs.Prelude.{if◌then◌else◌, nat_le}
use Rattle.std.specs.Char.{is_ascii_digit}
use Rattle.std.specs.List.{list_all}
use Rattle.std.specs.Result.{OkIff}
use Rattle.std.specs.Str.Parse.{digits_value, ParsesUnsigned}
use Rattle.apd_words.specs.Words.{is_number, number_of, within}

own : IsNumeralModel (λ ds. list_all is_ascii_digit ds ≡ true) (digits_value 10)
own = numerals_by_value _ (search rules)

-- a number, or none, where it is one from 1 to the most
abbrev pub number_read : {E : Type 0} → ℕ → Result ℕ E → Option ℕ
number_read most (Ok n) = within most n
number_read most (Err e) = None

-- a word that is a number is parsed, and its value is what is read
pub parsed : {E : Type 0} (most : ℕ) (word : List ℕ) (r : Result ℕ E) → ParsesUnsigned 32 10 word r → is_number word ≡ true → number_read most r ≡ number_of most word
parsed {E} most word r h number =
    let parts = and_parts _ _ number in
    let rest = and_parts _ _ parts.1 in
    let some : 1 ≤ length word = leb-true _ _ parts.0 in
    let few : length word ≤ 7 = leb-true _ _ rest.0 in
    let small : digits_value 10 word < 10 ^ 7 = digits_value_short own word 7 rest.1 few in
    rw number (by_result r (parse_digits own 32 word r h rest.1) some (omega (arith, small)))
  where
    by_result : (q : Result ℕ E) → OkIff q ((0 < length word) × (digits_value 10 word < 2 ^ 32)) (digits_value 10 word) → 1 ≤ length word → digits_value 10 word < 2 ^ 32 → number_read most q ≡ within most (digits_value 10 word)
    by_result (Ok n) is some small = ap (within most) is.1
    by_result (Err e) not some small = absurd (not (omega arith, small))

within-bounds : (most n m : ℕ) → within most n ≡ Some m → (1 ≤ m) × (m ≤ most)
within-bounds most n m is = by (nat_le 1 n && nat_le n most) refl is
  where
    by : (b : Bool) → nat_le 1 n && nat_le n most ≡ b → (if b then Some n else None) ≡ Some m → (1 ≤ m) × (m ≤ most)
    by false e h = absurd (cc)
    by true e h =
        let parts = and_parts _ _ e in
        let same : n ≡ m = cc in
        subst (λ k. (1 ≤ k) × (k ≤ most)) same (leb-true _ _ parts.0, leb-true _ _ parts.1)

-- a number that a word writes is from 1 to the most
pub number-bounds : (most n : ℕ) (word : List ℕ) → number_of most word ≡ Some n → (1 ≤ n) × (n ≤ most)
number-bounds most n word is = by (is_number word) is
  where
    by : (b : Bool) → (if b then within most (digits_value 10 word) else None) ≡ Some n → (1 ≤ n) × (n ≤ most)
    by false h = absurd (cc)
    by true h = within-bounds most (digits_value 10 word) n h

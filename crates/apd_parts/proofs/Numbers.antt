-- The number that digits write, digit by digit.
use Rattle.std.proofs.Common.{◌≡◌, ◌<◌, ◌≤◌, ◌+◌, ◌*◌, ◌^◌, ℕ, zero, suc, Bool, true, false, List, [], ◌∷◌, length, take, get_or, None, Some, refl, ap, arith}
use Rattle.std.specs.Prelude.{◌&&◌, nat_lt}
use Rattle.std.specs.Bool.{then_some}
use Rattle.std.specs.Char.{digit_value, is_ascii_digit}
use Rattle.std.specs.List.{list_all}
use Rattle.std.specs.Str.Parse.{digits_value}
use Rattle.std.proofs.lemmas.Int.Digits.{digits_value_more}
use Rattle.std.proofs.lemmas.Str.Parse.{digits_value-take-le}
use Rattle.std.proofs.lemmas.List.{take_all}
use Rattle.std.proofs.lemmas.Grind.{common_steps}
use Rattle.apd_parts.specs.Parts.{number_64}

abbrev pub are_digits : List ℕ → Bool
are_digits text = list_all is_ascii_digit text

all-at : (text : List ℕ) (i : ℕ) → i < length text → are_digits text ≡ true → is_ascii_digit (get_or text i 0) ≡ true
all-at [] i l e = absurd (omega (arith, l))
all-at (b ∷ text) zero l e = by (is_ascii_digit b) e
  where
    by : (x : Bool) → (x && are_digits text) ≡ true → x ≡ true
    by true e = refl
    by false e = absurd (cc)
all-at (b ∷ text) (suc i) l e = all-at text i (omega (arith, l)) (by (is_ascii_digit b) e)
  where
    by : (x : Bool) → (x && are_digits text) ≡ true → are_digits text ≡ true
    by true e = e
    by false e = absurd (cc)

none-of : (a b c : Bool) (n : ℕ) → b ≡ false → None ≡ then_some (a && (b && c)) n
none-of true b c n e = rw e refl
none-of false b c n e = refl

none-of-last : (a b c : Bool) (n : ℕ) → c ≡ false → None ≡ then_some (a && (b && c)) n
none-of-last true true c n e = rw e refl
none-of-last true false c n e = refl
none-of-last false b c n e = refl

pub no_digit : (text : List ℕ) (i : ℕ) → i < length text → is_ascii_digit (get_or text i 0) ≡ false → None ≡ number_64 text
no_digit text i l e = none-of (nat_lt 0 (length text)) (are_digits text) (nat_lt (digits_value 10 text) 18446744073709551616) (digits_value 10 text) (by (are_digits text) refl)
  where
    by : (x : Bool) → are_digits text ≡ x → are_digits text ≡ false
    by true f = absurd (let g = all-at text i l f in cc)
    by false f = f

pub too_great : (text : List ℕ) (i n : ℕ) → i < length text → n ≡ digits_value 10 (take i text) → 2 ^ 64 ≤ n * 10 + digit_value (get_or text i 0) → None ≡ number_64 text
too_great text i n l e g =
    let more : digits_value 10 (take (i + 1) text) ≡ digits_value 10 (take i text) * 10 + digit_value (get_or text i 0) = digits_value_more 10 text i l in
    let most : digits_value 10 (take (i + 1) text) ≤ digits_value 10 text = digits_value-take-le 10 text (i + 1) (omega arith) in
    let great : 18446744073709551616 ≤ digits_value 10 text = omega (arith, e, g, more, most) in
    none-of-last (nat_lt 0 (length text)) (are_digits text) (nat_lt (digits_value 10 text) 18446744073709551616) (digits_value 10 text) (grind (arith, common_steps, great))

pub one_digit : (text : List ℕ) (i : ℕ) → i < length text → are_digits (take i text) ≡ true → is_ascii_digit (get_or text i 0) ≡ true → are_digits (take (i + 1) text) ≡ true
one_digit text i l e f = let n : i + 1 ≡ suc i = omega arith in rw n (by text i l e f)
  where
    more : (text : List ℕ) (i : ℕ) (x : Bool) → (x && are_digits (take i text)) ≡ true → (are_digits (take i text) ≡ true → are_digits (take (suc i) text) ≡ true) → (x && are_digits (take (suc i) text)) ≡ true
    more text i true g rest = rest g
    more text i false g rest = absurd (cc)

    by : (text : List ℕ) (i : ℕ) → i < length text → are_digits (take i text) ≡ true → is_ascii_digit (get_or text i 0) ≡ true → are_digits (take (suc i) text) ≡ true
    by [] i l e f = absurd (omega (arith, l))
    by (b ∷ text) zero l e f = rw f refl
    by (b ∷ text) (suc i) l e f = more text i (is_ascii_digit b) e (λ g. by text i (omega (arith, l)) g f)

pub all_read : (text : List ℕ) (i n : ℕ) → 0 < length text → length text ≤ i → are_digits (take i text) ≡ true → n ≡ digits_value 10 (take i text) → n < 2 ^ 64 → Some n ≡ number_64 text
all_read text i n some end are e small =
    let whole : take i text ≡ text = take_all i text end in
    let all : are_digits text ≡ true = rw whole at are in
    let value : n ≡ digits_value 10 text = rw whole at e in
    let first : nat_lt 0 (length text) ≡ true = grind (arith, common_steps, some) in
    let last : nat_lt (digits_value 10 text) 18446744073709551616 ≡ true = grind (arith, common_steps, small, value) in
    rw (first, all, last) (ap Some value)

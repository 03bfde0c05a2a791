-- The parts of a line that is made of parts.
use Rattle.std.proofs.Common.{◌≡◌, ℕ, ◌<◌, ◌≤◌, ◌^◌, ◌+◌, List, [], ◌∷◌, ◌++◌, length, refl, sym, ◌∙◌, ap, append-nil, length-append, arith, Bool, true, false, Option, Some, None}
use Rattle.std.specs.Prelude.{nat_eq, nat_lt, if◌then◌else◌, ◌==◌, ◌&&◌, not, codes}
use Rattle.std.specs.Bool.{then_some}
use Rattle.std.specs.Char.{is_ascii_digit}
use Rattle.std.specs.Fmt.{decimal}
use Rattle.std.specs.Int.{IsInRange as IsDigitByte}
use Rattle.std.specs.List.{list_all}
use Rattle.std.specs.Option.{option_map, option_and_then, option_or}
use Rattle.std.specs.Str.{bytes_eq}
use Rattle.std.specs.Str.Parse.{AllDigits, digits_value}
use Rattle.std.proofs.lemmas.Bool.{lt-ltb}
use Rattle.std.proofs.lemmas.Bool.Decides.{nat_tests}
use Rattle.std.proofs.lemmas.Fmt.{decimal_is_IsNumeral, decimal_nonempty}
use Rattle.std.proofs.lemmas.Str.Parse.{digit_from_value}
use Rattle.apd_base.specs.declared.limits.TheConstants.{MAX_FILE}
use Rattle.apd_parts.specs.Parts.{Led, after, at_start, onto_part, cut, cut_last, before, last_part, number_in, led_with, led_at, led_by, uncounted, counted_with, counted_at, counted, if_some}
use Rattle.apd_written.specs.Texts.{IsShort}

same_byte : (b : ℕ) → nat_eq b b ≡ true
same_byte b = grind (arith, nat_tests)

equal_byte : (b : ℕ) → (b == b) ≡ true
equal_byte b = grind (arith, nat_tests)

pub same_bytes : (bs : List ℕ) → bytes_eq bs bs ≡ true
same_bytes [] = refl
same_bytes (b ∷ bs) = ap (λ c. c && bytes_eq bs bs) (same_byte b) ∙ same_bytes bs

pub after-self : (ps rest : List ℕ) → after ps (ps ++ rest) ≡ Some rest
after-self [] rest = refl
after-self (p ∷ ps) rest = ap (λ (c : Bool). if c then after ps (ps ++ rest) else None) (equal_byte p) ∙ after-self ps rest

-- the byte stands nowhere in the text
abbrev pub HasNo : ℕ → List ℕ → Type 0
HasNo p [] = Unit {0}
HasNo p (b ∷ bs) = ((b == p) ≡ false) × HasNo p bs

pub after-other : (p : ℕ) (ps : List ℕ) (b : ℕ) (bs : List ℕ) → (b == p) ≡ false → after (p ∷ ps) (b ∷ bs) ≡ None
after-other p ps b bs e = ap (λ (c : Bool). if c then after ps bs else None) e

-- cut where the bytes first stand, since their first byte doesn't stand before
pub cut-at : (p : ℕ) (ps xs rest : List ℕ) → HasNo p xs → cut (p ∷ ps) (xs ++ p ∷ (ps ++ rest)) ≡ Some (xs, rest)
cut-at p ps [] rest h = ap (λ o. option_or (option_map at_start o) (option_map (onto_part p) (cut (p ∷ ps) (ps ++ rest)))) (after-self (p ∷ ps) rest)
cut-at p ps (x ∷ xs) rest h =
    ap (λ o. option_or (option_map at_start o) (option_map (onto_part x) (cut (p ∷ ps) (xs ++ p ∷ (ps ++ rest))))) (after-other p ps x (xs ++ p ∷ (ps ++ rest)) h.0)
    ∙ ap (option_map (onto_part x)) (cut-at p ps xs rest h.1)

-- cut where they last stand, which is the end
pub cut_last-end : (bytes xs : List ℕ) → cut_last bytes bytes ≡ Some ([], []) → cut_last bytes (xs ++ bytes) ≡ Some (xs, [])
cut_last-end bytes [] h = h
cut_last-end bytes (x ∷ xs) h = ap (λ o. option_or (option_map (onto_part x) o) (option_map at_start (after bytes (x ∷ (xs ++ bytes))))) (cut_last-end bytes xs h)

pub before-end : (bytes xs : List ℕ) → cut_last bytes bytes ≡ Some ([], []) → before bytes (xs ++ bytes) ≡ Some xs
before-end bytes xs h = ap (option_and_then last_part) (cut_last-end bytes xs h)

-- cut where they last stand, since they don't stand further on
pub cut_last-at : (p : ℕ) (ps xs rest : List ℕ) → cut_last (p ∷ ps) (ps ++ rest) ≡ None → cut_last (p ∷ ps) (xs ++ p ∷ (ps ++ rest)) ≡ Some (xs, rest)
cut_last-at p ps [] rest h =
    ap (λ o. option_or (option_map (onto_part p) o) (option_map at_start (after (p ∷ ps) (p ∷ (ps ++ rest))))) h
    ∙ ap (option_map at_start) (after-self (p ∷ ps) rest)
cut_last-at p ps (x ∷ xs) rest h =
    ap (λ o. option_or (option_map (onto_part x) o) (option_map at_start (after (p ∷ ps) (x ∷ (xs ++ p ∷ (ps ++ rest)))))) (cut_last-at p ps xs rest h)

none_either : (c : Bool) (o : Option (List ℕ)) → o ≡ None → (if c then o else None) ≡ None
none_either true o e = e
none_either false o e = refl

-- bytes of which the second one stands nowhere don't stand there
after-second : (p q : ℕ) (ps : List ℕ) (b : ℕ) (bs : List ℕ) → HasNo q bs → after (p ∷ q ∷ ps) (b ∷ bs) ≡ None
after-second p q ps b [] h = none_either (b == p) (after (q ∷ ps) []) refl
after-second p q ps b (x ∷ bs) h = none_either (b == p) (after (q ∷ ps) (x ∷ bs)) (after-other q ps x bs h.0)

pub cut_last-second : (p q : ℕ) (ps text : List ℕ) → HasNo q text → cut_last (p ∷ q ∷ ps) text ≡ None
cut_last-second p q ps [] h = refl
cut_last-second p q ps (b ∷ text) h =
    ap (λ o. option_or (option_map (onto_part b) o) (option_map at_start (after (p ∷ q ∷ ps) (b ∷ text)))) (cut_last-second p q ps text h.1)
    ∙ ap (option_map at_start) (after-second p q ps b text h.1)

-- Numbers.

digit_byte : (c : ℕ) → IsDigitByte 48 57 c → is_ascii_digit c ≡ true
digit_byte c h = grind (arith, nat_tests, h)

pub all_digits : (ds : List ℕ) → AllDigits 10 ds → list_all is_ascii_digit ds ≡ true
all_digits [] h = refl
all_digits (d ∷ ds) h = ap (λ c. c && list_all is_ascii_digit ds) (digit_byte d (digit_from_value d h.0)) ∙ all_digits ds h.1

no_byte : (c p : ℕ) → IsDigitByte 48 57 c → p < 48 → (c == p) ≡ false
no_byte c p h l = grind (arith, nat_tests, h, l)

digits_have_no : (p : ℕ) (ds : List ℕ) → p < 48 → AllDigits 10 ds → HasNo p ds
digits_have_no p [] l h = tt
digits_have_no p (d ∷ ds) l h = (no_byte d p (digit_from_value d h.0) l, digits_have_no p ds l h.1)

pub decimal-has_no : (p n : ℕ) → p < 48 → n < 2 ^ 64 → HasNo p (decimal n)
decimal-has_no p n l m = digits_have_no p (decimal n) l (decimal_is_IsNumeral n m).0.1

no_byte_high : (c p : ℕ) → IsDigitByte 48 57 c → 57 < p → (c == p) ≡ false
no_byte_high c p h l = grind (arith, nat_tests, h, l)

digits_have_no_high : (p : ℕ) (ds : List ℕ) → 57 < p → AllDigits 10 ds → HasNo p ds
digits_have_no_high p [] l h = tt
digits_have_no_high p (d ∷ ds) l h = (no_byte_high d p (digit_from_value d h.0) l, digits_have_no_high p ds l h.1)

pub decimal-has_no_high : (p n : ℕ) → 57 < p → n < 2 ^ 64 → HasNo p (decimal n)
decimal-has_no_high p n l m = digits_have_no_high p (decimal n) l (decimal_is_IsNumeral n m).0.1

pub number-back : (limit n : ℕ) → n < limit → n < 2 ^ 64 → number_in limit (decimal n) ≡ Some n
number-back limit n l m =
    let x = decimal_is_IsNumeral n m in
    let value : digits_value 10 (decimal n) ≡ n = x.1 in
    ap (λ c. then_some (c && (list_all is_ascii_digit (decimal n) && nat_lt (digits_value 10 (decimal n)) limit)) (digits_value 10 (decimal n))) (lt-ltb 0 (length (decimal n)) (decimal_nonempty n m))
    ∙ ap (λ c. then_some (c && nat_lt (digits_value 10 (decimal n)) limit) (digits_value 10 (decimal n))) (all_digits (decimal n) x.0.1)
    ∙ ap (λ k. then_some (nat_lt k limit) k) value
    ∙ ap (λ c. then_some c n) (lt-ltb n limit l)

abbrev pub led : ℕ → List ℕ → Led
led n rest = record { number = n; rest = rest }

-- a number before bytes that begin with no digit
pub led-back : (p : ℕ) (ps : List ℕ) (n : ℕ) (rest : List ℕ) → n < 4294967296 → HasNo p (decimal n) → led_by (p ∷ ps) (decimal n ++ p ∷ (ps ++ rest)) ≡ Some (led n rest)
led-back p ps n rest l h = ap (option_and_then led_at) (cut-at p ps (decimal n) rest h) ∙ ap (option_map (led_with rest)) (number-back 4294967296 n l (omega (arith, l)))

-- behind it a byte below the digits, or above them
pub led-low : (p : ℕ) (ps : List ℕ) (n : ℕ) (rest : List ℕ) → n < 4294967296 → p < 48 → led_by (p ∷ ps) (decimal n ++ p ∷ (ps ++ rest)) ≡ Some (led n rest)
led-low p ps n rest l k = led-back p ps n rest l (decimal-has_no p n k (omega (arith, l)))

pub led-high : (p : ℕ) (ps : List ℕ) (n : ℕ) (rest : List ℕ) → n < 4294967296 → 57 < p → led_by (p ∷ ps) (decimal n ++ p ∷ (ps ++ rest)) ≡ Some (led n rest)
led-high p ps n rest l k = led-back p ps n rest l (decimal-has_no_high p n k (omega (arith, l)))

pub has_no-by : (p : ℕ) (bs : List ℕ) → list_all (λ b. not (b == p)) bs ≡ true → HasNo p bs
has_no-by p [] h = tt
has_no-by p (b ∷ bs) h = by (has_no-by p bs) (b == p) refl h
  where
    by : (list_all (λ x. not (x == p)) bs ≡ true → HasNo p bs) → (c : Bool) → (b == p) ≡ c → (not c && list_all (λ x. not (x == p)) bs) ≡ true → HasNo p (b ∷ bs)
    by ih true e k = absurd (cc)
    by ih false e k = (e, ih k)

pub has_no-append : (p : ℕ) (xs ys : List ℕ) → HasNo p xs → HasNo p ys → HasNo p (xs ++ ys)
has_no-append p [] ys h k = k
has_no-append p (x ∷ xs) ys h k = (h.0, has_no-append p xs ys h.1 k)

-- A number in brackets behind a text.

-- the number stands before a word that begins with a space and has no bracket
pub counted-back : (ps xs : List ℕ) (n : ℕ) → HasNo 91 ps → n < 4294967296 → counted (32 ∷ ps) (xs ++ (32 ∷ 91 ∷ (decimal n ++ 32 ∷ ps))) ≡ record { text = xs; number = Some n }
counted-back ps xs n w l =
    let whole = xs ++ (32 ∷ 91 ∷ (decimal n ++ 32 ∷ ps)) in
    let none : cut_last (32 ∷ 91 ∷ []) (91 ∷ (decimal n ++ 32 ∷ ps)) ≡ None =
    ap (λ o. option_or (option_map (onto_part 91) o) (option_map at_start (after (32 ∷ 91 ∷ []) (91 ∷ (decimal n ++ 32 ∷ ps)))))
    (cut_last-second 32 91 [] (decimal n ++ 32 ∷ ps) (has_no-append 91 (decimal n) (32 ∷ ps) (decimal-has_no_high 91 n (omega arith) (omega (arith, l))) (refl, w))) in
    ap (λ o. if_some o (counted_at (32 ∷ ps) whole) (uncounted whole)) (cut_last-at 32 (91 ∷ []) xs (decimal n ++ 32 ∷ ps) none)
    ∙ ap (λ o. if_some o (counted_with whole xs) (uncounted whole)) (ap (λ r. led_by (32 ∷ ps) (decimal n ++ 32 ∷ r)) (sym (append-nil ps)) ∙ led-low 32 ps n [] l (omega arith))

-- Lengths.

-- what stands behind a front is no longer than both, and what stands before a rest
pub drop-front : (k : ℕ) (front t : List ℕ) → k + length (front ++ t) ≤ MAX_FILE → k + length t ≤ MAX_FILE
drop-front k front t h = let whole : length (front ++ t) ≡ length front + length t = length-append front t in omega (arith, h, whole)

pub drop-rest : (k : ℕ) (t rest : List ℕ) → k + length (t ++ rest) ≤ MAX_FILE → k + length t ≤ MAX_FILE
drop-rest k t rest h = let whole : length (t ++ rest) ≡ length t + length rest = length-append t rest in omega (arith, h, whole)

-- behind two bytes at least there is room for two more
pub behind-two : (front t : List ℕ) (k : ℕ) → length front ≡ 2 + k → IsShort (front ++ t) → 2 + length t ≤ MAX_FILE
behind-two front t k few short = let whole : length (front ++ t) ≡ length front + length t = length-append front t in omega (arith, few, short, whole)

-- the text as a clause
pub as-short : (t : List ℕ) → 2 + length t ≤ MAX_FILE → IsShort (t ++ codes " .")
as-short t h = let ended : length (t ++ codes " .") ≡ length t + 2 = length-append t (codes " .") in omega (arith, h, ended)

pub behind-short : (front t : List ℕ) (k : ℕ) → length front ≡ 2 + k → IsShort (front ++ t) → IsShort (t ++ codes " .")
behind-short front t k few short = as-short t (behind-two front t k few short)

-- a line of a text that is short, with its newline
pub line-short : (line : List ℕ) → IsShort (line ++ 10 ∷ []) → IsShort line
line-short line short = let whole : length (line ++ 10 ∷ []) ≡ length line + 1 = length-append line (10 ∷ []) in omega (arith, short, whole)

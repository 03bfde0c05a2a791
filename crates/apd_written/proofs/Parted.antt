-- The words between a call and its caller stand where they were written.
use Rattle.std.proofs.Common.{◌≡◌, ℕ, suc, ◌<◌, ◌+◌, length, List, [], ◌∷◌, ◌++◌, take, drop, refl, ◌∙◌, ap, arith, Bool, true, false, Some}
use Rattle.std.specs.Prelude.{◌&&◌, if◌then◌else◌}
use Rattle.std.specs.Char.{is_ascii_digit}
use Rattle.std.specs.Fmt.{decimal}
use Rattle.std.specs.List.{list_all}
use Rattle.std.specs.Option.{option_map, option_and_then}
use Rattle.std.proofs.lemmas.Fmt.{decimal_is_IsNumeral}
use Rattle.apd_parts.specs.Parts.{after, digits_first, led_first, led_with, number_32}
use Rattle.apd_written.proofs.Parts.{after-self, all_digits, led, number-back}

digits-count : (ds : List ℕ) (b : ℕ) (more : List ℕ) → list_all is_ascii_digit ds ≡ true → is_ascii_digit b ≡ false → digits_first (ds ++ b ∷ more) ≡ length ds
digits-count [] b more h n = ap (λ (c : Bool). if c then digits_first more + 1 else 0) n
digits-count (d ∷ ds) b more h n = by (λ k. digits-count ds b more k n) (is_ascii_digit d) (list_all is_ascii_digit ds) refl refl h
  where
    by : (list_all is_ascii_digit ds ≡ true → digits_first (ds ++ b ∷ more) ≡ length ds) → (x y : Bool) → is_ascii_digit d ≡ x → list_all is_ascii_digit ds ≡ y → (x && y) ≡ true
        → (if x then digits_first (ds ++ b ∷ more) + 1 else 0) ≡ suc (length ds)
    by ih true true f g k = let l = ih g in omega (arith, l)
    by ih true false f g k = absurd (cc)
    by ih false y f g k = absurd (cc)

pub dropped-front : (xs ys : List ℕ) → drop (length xs) (xs ++ ys) ≡ ys
dropped-front [] ys = refl
dropped-front (x ∷ xs) ys = dropped-front xs ys

pub taken-front : (xs ys : List ℕ) → take (length xs) (xs ++ ys) ≡ xs
taken-front [] ys = refl
taken-front (x ∷ xs) ys = ap (λ zs. x ∷ zs) (taken-front xs ys)

pub led_first-back : (b : ℕ) (bs : List ℕ) (n : ℕ) (rest : List ℕ) → is_ascii_digit b ≡ false → n < 4294967296 → led_first (b ∷ bs) (decimal n ++ ((b ∷ bs) ++ rest)) ≡ Some (led n rest)
led_first-back b bs n rest d l =
    let ds = decimal n in
    let text = ds ++ ((b ∷ bs) ++ rest) in
    let count : digits_first text ≡ length ds = digits-count ds b (bs ++ rest) (all_digits ds (decimal_is_IsNumeral n (omega (arith, l))).0.1) d in
    ap (λ k. option_and_then (λ r. option_map (led_with r) (number_32 (take k text))) (after (b ∷ bs) (drop k text))) count
    ∙ ap (λ t. option_and_then (λ r. option_map (led_with r) (number_32 t)) (after (b ∷ bs) (drop (length ds) text))) (taken-front ds ((b ∷ bs) ++ rest))
    ∙ ap (λ t. option_and_then (λ r. option_map (led_with r) (number_32 ds)) (after (b ∷ bs) t)) (dropped-front ds ((b ∷ bs) ++ rest))
    ∙ ap (option_and_then (λ r. option_map (led_with r) (number_32 ds))) (after-self (b ∷ bs) rest)
    ∙ ap (option_map (led_with rest)) (number-back 4294967296 n l (omega (arith, l)))

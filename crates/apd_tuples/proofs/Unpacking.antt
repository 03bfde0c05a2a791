-- A row in few bytes is the row.
use Rattle.std.proofs.Common.{◌≡◌, ℕ, ◌+◌, ◌*◌, ◌/◌, ◌%◌, ◌<◌, ◌==◌, Bool, true, false, refl, ◌∙◌, ap, arith}
use Rattle.std.proofs.lemmas.Nat.{div-mul-add, mod-mul-add}
use Rattle.apd_tuples.specs.declared.spots.Fact.{Fact}
use Rattle.apd_tuples.specs.declared.spots.SpotRow.{SpotRow}
use Rattle.apd_tuples.specs.Packed.{bit, fact_in}

bit_below : (b : Bool) → bit b < 2
bit_below false = omega arith
bit_below true = omega arith

bit_is : (b : Bool) → (bit b == 1) ≡ b
bit_is false = refl
bit_is true = refl

-- a place and two bits
abbrev pub packed : ℕ → Bool → Bool → ℕ
packed a h g = a * 4 + bit h * 2 + bit g

module _ (a : ℕ) (h g : Bool) where
  place_in : packed a h g / 4 ≡ a
  place_in =
      let whole : packed a h g ≡ a * 4 + (bit h * 2 + bit g) = omega arith in
      ap (λ n. n / 4) whole ∙ div-mul-add a 4 (bit h * 2 + bit g) (omega (arith, bit_below h, bit_below g))

  halves : packed a h g ≡ (a * 2 + bit h) * 2 + bit g
  halves = omega arith

  has_in : (packed a h g / 2 % 2 == 1) ≡ h
  has_in =
      let half : packed a h g / 2 ≡ a * 2 + bit h = ap (λ n. n / 2) halves ∙ div-mul-add (a * 2 + bit h) 2 (bit g) (bit_below g) in
      ap (λ n. n % 2 == 1) half ∙ ap (λ n. n == 1) (mod-mul-add a 2 (bit h) (bit_below h)) ∙ bit_is h

  last_in : (packed a h g % 2 == 1) ≡ g
  last_in = ap (λ n. n % 2 == 1) halves ∙ ap (λ n. n == 1) (mod-mul-add (a * 2 + bit h) 2 (bit g) (bit_below g)) ∙ bit_is g

abbrev row_with : SpotRow → ℕ → Bool → Fact → SpotRow
row_with r a h fact = record { moment = r.moment; at = a; has_goals = h; fact = fact }

pub row_again : (r : SpotRow) (n : ℕ) (g : Bool) → n ≡ packed r.at r.has_goals g → fact_in g ≡ r.fact → row_with r (n / 4) (n / 2 % 2 == 1) (fact_in (n % 2 == 1)) ≡ r
row_again r n g e is =
    ap (λ k. row_with r (k / 4) (k / 2 % 2 == 1) (fact_in (k % 2 == 1))) e
    ∙ ap (λ a. row_with r a (packed r.at r.has_goals g / 2 % 2 == 1) (fact_in (packed r.at r.has_goals g % 2 == 1))) (place_in r.at r.has_goals g)
    ∙ ap (λ h. row_with r r.at h (fact_in (packed r.at r.has_goals g % 2 == 1))) (has_in r.at r.has_goals g)
    ∙ ap (λ b. row_with r r.at r.has_goals (fact_in b)) (last_in r.at r.has_goals g)
    ∙ ap (row_with r r.at r.has_goals) is

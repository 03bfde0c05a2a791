-- Where the text of a call is parted, the words between two calls stand.
use Rattle.std.proofs.Common.{◌≡◌, ℕ, zero, suc, Bool, true, false, List, [], ◌∷◌, take, drop, refl, ap, subst, Option, None, Some}
use Rattle.std.specs.Prelude.{if◌then◌else◌}
use Rattle.std.specs.Option.{option_map, option_or}
use Rattle.apd_parts.specs.Parts.{Boxed, Led, box_first, box_outside, box_where, boxed_behind, boxed_here, boxed_in, boxed_where, quote_after, word_after}
use Rattle.apd_parts.specs.declared.boxes.Quote.{Quote}
use Rattle.apd_parts.specs.declared.boxes.Quote.TheVariants.{Outside, Inside, Escaped, Hexadecimal}

-- the parts of a text, with the words at this place between them
pub record IsPlace (text : List ℕ) (p : Boxed) : Type 0 where
  pub place : ℕ
  pub front : p.front ≡ take place text
  pub behind : box_first (drop place text) ≡ Some p.led

outside_first : (quote : Quote) (text : List ℕ) (a : Led) → box_outside quote text ≡ Some a → box_first text ≡ Some a
outside_first Outside text a e = e
outside_first Inside text a e = absurd cc
outside_first Escaped text a e = absurd cc
outside_first Hexadecimal text a e = absurd cc

where_first : (test : List ℕ → Bool) (quote : Quote) (word text : List ℕ) (a : Led) → box_where test quote word text ≡ Some a → box_first text ≡ Some a
where_first test quote word text a e = by (test word) e
  where
    by : (b : Bool) → (if b then box_outside quote text else None) ≡ Some a → box_first text ≡ Some a
    by true h = outside_first quote text a h
    by false h = absurd cc

-- here, or further on
place-here : (b : ℕ) (text : List ℕ) (o : Option Led) (u : Option Boxed) (p : Boxed) → ((a : Led) → o ≡ Some a → box_first (b ∷ text) ≡ Some a) → ((q : Boxed) → u ≡ Some q → IsPlace text q)
    → option_or (option_map boxed_here o) (option_map (boxed_behind b) u) ≡ Some p → IsPlace (b ∷ text) p
place-here b text (Some a) u p here further e =
    let same : boxed_here a ≡ p = cc in
    subst (IsPlace (b ∷ text)) same (record { place = zero; front = refl; behind = here a refl })
place-here b text None (Some q) p here further e =
    let same : boxed_behind b q ≡ p = cc in
    let k = further q refl in
    subst (IsPlace (b ∷ text)) same (record { place = suc k.place; front = ap (λ bs. b ∷ bs) k.front; behind = k.behind })
place-here b text None None p here further e = absurd cc

pub boxed-place : (quote : Quote) (text : List ℕ) (p : Boxed) → boxed_in quote text ≡ Some p → IsPlace text p
boxed-place quote [] p e = absurd cc
boxed-place quote (b ∷ text) p e =
    place-here b text (box_outside quote (b ∷ text)) (boxed_in (quote_after quote b) text) p (outside_first quote (b ∷ text)) (boxed-place (quote_after quote b) text) e

pub where-place : (test : List ℕ → Bool) (quote : Quote) (word text : List ℕ) (p : Boxed) → boxed_where test quote word text ≡ Some p → IsPlace text p
where-place test quote word [] p e = absurd cc
where-place test quote word (b ∷ text) p e =
    place-here b text (box_where test quote word (b ∷ text)) (boxed_where test (quote_after quote b) (word_after quote word b) text) p
    (where_first test quote word (b ∷ text)) (where-place test (quote_after quote b) (word_after quote word b) text) e

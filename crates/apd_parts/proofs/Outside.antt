-- The words between two calls, found place by place outside quotes.
use Rattle.std.proofs.Common.{◌≡◌, ◌<◌, ◌≤◌, ◌+◌, ◌++◌, ℕ, zero, suc, true, false, List, [], ◌∷◌, length, take, drop, get_or, Option, None, Some, refl, sym, ap, ◌∙◌, arith}
use Rattle.std.specs.Char.{is_ascii_digit}
use Rattle.std.specs.Option.{option_map}
use Rattle.std.proofs.lemmas.List.{append-nil, length-drop}
use Rattle.apd_parts.specs.Parts.{Boxed, Led, box_outside, boxed_behind, boxed_in, digits_first, quote_after}
use Rattle.apd_parts.specs.declared.boxes.Quote.{Quote}

-- what stands before is one with the bytes that were passed
abbrev pub with_front : List ℕ → Boxed → Boxed
with_front front p = record { front = front ++ p.front; led = p.led }

abbrev pub boxed_with : List ℕ → Option Boxed → Option Boxed
boxed_with front o = option_map (with_front front) o

pub with-byte : (b : ℕ) (front : List ℕ) (o : Option Boxed) → option_map (boxed_behind b) (boxed_with front o) ≡ boxed_with (b ∷ front) o
with-byte b front None = refl
with-byte b front (Some p) = refl

pub with-none : (o : Option Boxed) → boxed_with [] o ≡ o
with-none None = refl
with-none (Some p) = refl

pub outside-later : (quote : Quote) (text : List ℕ) (i : ℕ) → i < length text → box_outside quote (drop i text) ≡ None
    → boxed_with (take i text) (boxed_in quote (drop i text)) ≡ boxed_with (take (i + 1) text) (boxed_in (quote_after quote (get_or text i 0)) (drop (i + 1) text))
outside-later quote text i l e = let n : i + 1 ≡ suc i = omega arith in rw n (by text i l e)
  where
    by : (text : List ℕ) (i : ℕ) → i < length text → box_outside quote (drop i text) ≡ None
        → boxed_with (take i text) (boxed_in quote (drop i text)) ≡ boxed_with (take (suc i) text) (boxed_in (quote_after quote (get_or text i 0)) (drop (suc i) text))
    by [] i l e = absurd (omega (arith, l))
    by (b ∷ text) zero l e =
        let next : Option Boxed = boxed_in (quote_after quote b) text in
        rw e (with-none (option_map (boxed_behind b) next) ∙ (ap (option_map (boxed_behind b)) (sym (with-none next)) ∙ with-byte b [] next))
    by (b ∷ text) (suc i) l e =
        sym (with-byte b (take i text) (boxed_in quote (drop i text)))
        ∙ ap (option_map (boxed_behind b)) (by text i (omega (arith, l)) e)
        ∙ with-byte b (take (suc i) text) (boxed_in (quote_after quote (get_or text i 0)) (drop (suc i) text))

pub outside-here : (quote : Quote) (text : List ℕ) (a : Led) (i : ℕ) → i < length text → box_outside quote (drop i text) ≡ Some a
    → boxed_with (take i text) (boxed_in quote (drop i text)) ≡ Some (record { front = take i text; led = a })
outside-here quote text a i l e = by (drop i text) (omega (arith, l, length-drop i text)) e
  where
    by : (t : List ℕ) → 0 < length t → box_outside quote t ≡ Some a → boxed_with (take i text) (boxed_in quote t) ≡ Some (record { front = take i text; led = a })
    by [] k f = absurd (omega (arith, k))
    by (b ∷ t) k f = rw f (ap (λ (front : List ℕ). Some (record { front = front; led = a })) (append-nil (take i text)))

-- digits that stand first
pub one-digit : (text : List ℕ) (i : ℕ) → i < length text → is_ascii_digit (get_or text i 0) ≡ true → i + digits_first (drop i text) ≡ (i + 1) + digits_first (drop (i + 1) text)
one-digit text i l e = let n : i + 1 ≡ suc i = omega arith in rw n (by text i l e)
  where
    by : (text : List ℕ) (i : ℕ) → i < length text → is_ascii_digit (get_or text i 0) ≡ true → i + digits_first (drop i text) ≡ suc i + digits_first (drop (suc i) text)
    by [] i l e = absurd (omega (arith, l))
    by (b ∷ text) zero l e = rw e (omega arith)
    by (b ∷ text) (suc i) l e = let rest = by text i (omega (arith, l)) e in omega (arith, rest)

pub no-digit : (text : List ℕ) (i : ℕ) → i < length text → is_ascii_digit (get_or text i 0) ≡ false → i + digits_first (drop i text) ≡ i
no-digit [] i l e = absurd (omega (arith, l))
no-digit (b ∷ text) zero l e = rw e refl
no-digit (b ∷ text) (suc i) l e = let rest = no-digit text i (omega (arith, l)) e in omega (arith, rest)

pub digits-end : (text : List ℕ) (i : ℕ) → length text ≤ i → i + digits_first (drop i text) ≡ i
digits-end text i l = by (drop i text) (let d = length-drop i text in omega (arith, l, d))
  where
    by : (t : List ℕ) → length t ≤ 0 → i + digits_first t ≡ i
    by [] k = omega arith
    by (b ∷ t) k = absurd (omega (arith, k))

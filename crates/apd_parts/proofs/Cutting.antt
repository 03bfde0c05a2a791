-- The parts of a line, found place by place.
use Rattle.std.proofs.Common.{◌≡◌, ◌<◌, ◌≤◌, ◌+◌, ◌++◌, ◌-◌, ℕ, zero, suc, Bool, true, false, List, [], ◌∷◌, length, take, drop, Option, None, Some, refl, sym, ap, ◌∙◌, arith}
use Rattle.std.specs.Prelude.{◌==◌, if◌then◌else◌, MatchOption}
use Rattle.std.specs.Borrow.{Bor}
use Rattle.std.specs.Option.{option_map}
use Rattle.std.specs.Str.{bytes_eq}
use Rattle.std.proofs.lemmas.List.{append-nil, length-drop}
use Rattle.apd_parts.specs.Parts.{Parts, after, onto_part, cut, cut_last}

-- a text that begins with the bytes
after-by : (bs text : List ℕ) (b : Bool) → bytes_eq (take (length bs) text) bs ≡ b → after bs text ≡ (if b then Some (drop (length bs) text) else None)
after-by [] text true e = refl
after-by [] text false e = absurd (cc)
after-by (b ∷ bs) [] true e = absurd (cc)
after-by (b ∷ bs) [] false e = refl
after-by (b ∷ bs) (c ∷ text) x e = by (c == b) refl e (after-by bs text)
  where
    by : (y : Bool) → (c == b) ≡ y → bytes_eq (take (length (b ∷ bs)) (c ∷ text)) (b ∷ bs) ≡ x
        → ((z : Bool) → bytes_eq (take (length bs) text) bs ≡ z → after bs text ≡ (if z then Some (drop (length bs) text) else None))
        → (if y then after bs text else None) ≡ (if x then Some (drop (length bs) text) else None)
    by true f k rest = rest x (rw f at k)
    by false f k rest = let g : false ≡ x = rw f at k in rw (sym g) refl

pub after-none : (bs text : List ℕ) → bytes_eq (take (length bs) text) bs ≡ false → after bs text ≡ None
after-none bs text e = after-by bs text false e

pub after-some : (bs text x : List ℕ) → bytes_eq (take (length bs) text) bs ≡ true → x ≡ drop (length bs) text → after bs text ≡ Some x
after-some bs text x e f = after-by bs text true e ∙ ap Some (sym f)

-- what stands before is one with the bytes that were passed
abbrev pub behind : List ℕ → Parts → Parts
behind front p = (front ++ p.0, p.1)

abbrev pub moved : List ℕ → Option Parts → Option Parts
moved front o = option_map (behind front) o

moved-part : (b : ℕ) (front : List ℕ) (o : Option Parts) → option_map (onto_part b) (moved front o) ≡ moved (b ∷ front) o
moved-part b front None = refl
moved-part b front (Some p) = refl

moved-none : (o : Option Parts) → moved [] o ≡ o
moved-none None = refl
moved-none (Some p) = refl

-- one place further
pub cut-later : (bytes text : List ℕ) (i : ℕ) → i < length text → after bytes (drop i text) ≡ None → moved (take i text) (cut bytes (drop i text)) ≡ moved (take (i + 1) text) (cut bytes (drop (i + 1) text))
cut-later bytes text i l e = let n : i + 1 ≡ suc i = omega arith in rw n (by text i l e)
  where
    by : (text : List ℕ) (i : ℕ) → i < length text → after bytes (drop i text) ≡ None → moved (take i text) (cut bytes (drop i text)) ≡ moved (take (suc i) text) (cut bytes (drop (suc i) text))
    by [] i l e = absurd (omega (arith, l))
    by (b ∷ text) zero l e = rw e (moved-none (option_map (onto_part b) (cut bytes text)) ∙ (ap (option_map (onto_part b)) (sym (moved-none (cut bytes text))) ∙ moved-part b [] (cut bytes text)))
    by (b ∷ text) (suc i) l e = sym (moved-part b (take i text) (cut bytes (drop i text))) ∙ ap (option_map (onto_part b)) (by text i (omega (arith, l)) e) ∙ moved-part b (take (suc i) text) (cut bytes (drop (suc i) text))

pub cut-here : (bytes text rest : List ℕ) (i : ℕ) → i < length text → after bytes (drop i text) ≡ Some rest → moved (take i text) (cut bytes (drop i text)) ≡ Some (take i text, rest)
cut-here bytes text rest i l e = by (drop i text) (omega (arith, l, length-drop i text)) e
  where
    by : (t : List ℕ) → 0 < length t → after bytes t ≡ Some rest → moved (take i text) (cut bytes t) ≡ Some (take i text, rest)
    by [] k f = absurd (omega (arith, k))
    by (b ∷ t) k f = rw f (ap (λ (front : List ℕ). Some (front, rest)) (append-nil (take i text)))

-- The last place.

pub last-here : (bytes text rest : List ℕ) (i : ℕ) → i < length text → after bytes (drop i text) ≡ Some rest → cut_last bytes (drop (i + 1) text) ≡ None → cut_last bytes text ≡ Some (take i text, rest)
last-here bytes text rest i l e none = let n : i + 1 ≡ suc i = omega arith in by text i l e (rw n at none)
  where
    by : (text : List ℕ) (i : ℕ) → i < length text → after bytes (drop i text) ≡ Some rest → cut_last bytes (drop (suc i) text) ≡ None → cut_last bytes text ≡ Some (take i text, rest)
    by [] i l e none = absurd (omega (arith, l))
    by (b ∷ text) zero l e none = rw (none, e) refl
    by (b ∷ text) (suc i) l e none = rw (by text i (omega (arith, l)) e none) refl

pub last-earlier : (bytes text : List ℕ) (i : ℕ) → i < length text → after bytes (drop i text) ≡ None → cut_last bytes (drop (i + 1) text) ≡ None → cut_last bytes (drop i text) ≡ None
last-earlier bytes text i l e none = let n : i + 1 ≡ suc i = omega arith in by text i l e (rw n at none)
  where
    by : (text : List ℕ) (i : ℕ) → i < length text → after bytes (drop i text) ≡ None → cut_last bytes (drop (suc i) text) ≡ None → cut_last bytes (drop i text) ≡ None
    by [] i l e none = absurd (omega (arith, l))
    by (b ∷ text) zero l e none = rw (none, e) refl
    by (b ∷ text) (suc i) l e none = by text i (omega (arith, l)) e none

-- The answers.

pub after-told : (bs text : List ℕ) (o : Option (Bor (List ℕ)))
    → MatchOption o (bytes_eq (take (length bs) text) bs ≡ false) (λ x. (bytes_eq (take (length bs) text) bs ≡ true) × (x.now ≡ drop (length bs) text) × (length x.now + length bs ≡ length text))
    → MatchOption o (after bs text ≡ None) (λ x. after bs text ≡ Some x.now)
after-told bs text None h = after-none bs text h
after-told bs text (Some x) h = after-some bs text x.now h.0 h.1

-- counted from behind
pub last-before : (bytes text rest : List ℕ) (i : ℕ) → 0 < i → i ≤ length text → after bytes (drop (i - 1) text) ≡ Some rest → cut_last bytes (drop i text) ≡ None → cut_last bytes text ≡ Some (take (i - 1) text, rest)
last-before bytes text rest zero p l e none = absurd (omega (arith, p))
last-before bytes text rest (suc k) p l e none =
    let n : suc k - 1 ≡ k = omega arith in
    let m : suc k ≡ k + 1 = omega arith in
    rw n (last-here bytes text rest k (omega (arith, l)) (rw n at e) (rw m at none))

pub last-further : (bytes text : List ℕ) (i : ℕ) → 0 < i → i ≤ length text → after bytes (drop (i - 1) text) ≡ None → cut_last bytes (drop i text) ≡ None → cut_last bytes (drop (i - 1) text) ≡ None
last-further bytes text zero p l e none = absurd (omega (arith, p))
last-further bytes text (suc k) p l e none =
    let n : suc k - 1 ≡ k = omega arith in
    let m : suc k ≡ k + 1 = omega arith in
    rw n (last-earlier bytes text k (omega (arith, l)) (rw n at e) (rw m at none))

-- Numbers behind a mark are read in one way.
use Rattle.std.proofs.Common.{◌≡◌, ℕ, List, [], ◌∷◌, ◌++◌, refl, sym, ◌∙◌, ap, subst, ◌⊎◌, inl, inr, Bool, true, false, ◌==◌, if◌then◌else◌}
use borrow.Author.Tests.{ne_eqb}
use Rattle.std.specs.Prelude.{encode_utf8}
use Rattle.std.proofs.lemmas.Str.{encode_same}
use Rattle.apd_token.specs.Bytes.{in_set, mark_of, escape_of}
use Rattle.apd_token.specs.Quotes.{AllIn, numeral, CodeOf}
use Rattle.apd_token.specs.Grammar.{DigitForm, NotNext, CharOf, CharForm, MarkedForm, IsMarked, NumberForm}
use Rattle.apd_token.specs.declared.bytes.Set.{Set}
use Rattle.apd_token.specs.declared.bytes.Set.TheVariants as sets
use Rattle.apd_token.specs.declared.bytes.NumberMark.{NumberMark}
use Rattle.apd_token.specs.declared.bytes.NumberMark.TheVariants as marks
use Rattle.apd_token.specs.declared.items.TokenKind.TheVariants.{Integer}
use Rattle.apd_causes.specs.declared.faults.TokenFault.TheVariants as faults
use Rattle.apd_token.specs.declared.found.Found.{Found}
use Rattle.apd_token.specs.declared.found.Found.TheVariants.{Item, Bad}
use Rattle.apd_token.proofs.Elements.{one_code}

apart : (x k : ℕ) → in_set sets.Digits k ≡ false → in_set sets.Digits x ≡ true → (x == k) ≡ false
apart x k no_digit digit = ne_eqb x k (λ e. let h : in_set sets.Digits k ≡ true = subst (λ (n : ℕ). in_set sets.Digits n ≡ true) e digit in cc)

mark_chain : (a b c d : Bool) → a ≡ false → b ≡ false → c ≡ false → d ≡ false → (if a then marks.Hex else (if b then marks.Octal else (if c then marks.Binary else (if d then marks.Code else marks.Nothing)))) ≡ marks.Nothing
mark_chain true b c d p q r s = cc
mark_chain false true c d p q r s = cc
mark_chain false false true d p q r s = cc
mark_chain false false false true p q r s = cc
mark_chain false false false false p q r s = refl

-- no mark is a digit or a full stop
no_digit_mark : (x : ℕ) (at : ℕ) (w : Found) (rest after : List ℕ) → MarkedForm (mark_of x) at w rest after → in_set sets.Digits x ≡ true → ⊥
no_digit_mark x at w rest after f digit =
    let none : mark_of x ≡ marks.Nothing = mark_chain _ _ _ _ (apart x 120 refl digit) (apart x 111 refl digit) (apart x 98 refl digit) (apart x 39 refl digit) in
    subst (λ (m : NumberMark). MarkedForm m at w rest after) none f

no_point_mark : (x : ℕ) (at : ℕ) (w : Found) (rest after : List ℕ) → MarkedForm (mark_of x) at w rest after → x ≡ 46 → ⊥
no_point_mark x at w rest after f e = subst (λ (n : ℕ). MarkedForm (mark_of n) at w rest after) e f

-- the second byte of a run, a byte p and one more
second : (set : Set) (y x p d : ℕ) (whole more : List ℕ) → AllIn set whole → y ∷ x ∷ more ≡ whole ++ p ∷ d ∷ [] → (y ≡ p) ⊎ ((x ≡ p) ⊎ (in_set set x ≡ true))
second set y x p d [] more all e = inl cc
second set y x p d (a ∷ []) more all e = inr (inl cc)
second set y x p d (a ∷ b ∷ whole) more all e =
    let same : b ≡ x = cc in
    inr (inr (subst (λ (n : ℕ). in_set set n ≡ true) same all.1.0))

no_float_marked : (x : ℕ) → (in_set sets.Digits x ≡ true → ⊥) → (x ≡ 46 → ⊥) → (whole : List ℕ) (d : ℕ) (more : List ℕ) → AllIn sets.Digits whole → 48 ∷ x ∷ more ≡ whole ++ 46 ∷ d ∷ [] → ⊥
no_float_marked x digit point whole d more all e = elim (second sets.Digits 48 x 46 d whole more all e) [
  | inl zero_point ↦ cc
  | inr other ↦ elim other [ inl is_point ↦ point is_point | inr is_digit ↦ digit is_digit ]
]

-- what a mark begins is no decimal number
pub no_decimal : (x : ℕ) (at p : ℕ) (w v : Found) (rest more after : List ℕ) → MarkedForm (mark_of x) at w rest after → DigitForm p v (48 ∷ x ∷ more) → ⊥
no_decimal x at p w v rest more after f d = elim d [
  | inl n ↦ no_digit_mark x at w rest after f n.0.1.0
  | inr g ↦ no_float_marked x (no_digit_mark x at w rest after f) (no_point_mark x at w rest after f) g.0.whole g.0.digit more g.0.digits g.0.spelled
]

-- one character behind `0'`
one_char_of : (t s : Bool) (at : ℕ) (w v : Found) (c : ℕ) (a b r u : List ℕ) → CharOf t s at w c a r → CharOf t s at v c b u → a ++ r ≡ b ++ u → (a ≡ b) × (w ≡ v)
one_char_of true s at w v c [] [] r u x y e = (refl, x.1 ∙ sym y.1)
one_char_of true s at w v c [] (d ∷ b) r u x y e = absurd (x.0 d b u y.0 e y.1)
one_char_of true s at w v c (d ∷ a) [] r u x y e = absurd (y.0 d a r x.0 (sym e) x.1)
one_char_of true s at w v c (d ∷ a) (g ∷ b) r u x y e =
    let head : g ≡ d = cc in
    let tail : a ++ r ≡ b ++ u = cc in
    let y' : CodeOf (escape_of d) d b y.0 = subst (λ (n : ℕ). CodeOf (escape_of n) n b y.0) head y.1 in
    let one = one_code (escape_of d) d a b r u x.0 y.0 x.1 y' tail in
    ((λ i. sym head i ∷ one.bytes i), x.2 ∙ ap (λ n. Item (Integer n)) one.value ∙ sym y.2)
one_char_of false true at w v c [] [] r u x y e = (refl, x.1 ∙ sym y.1)
one_char_of false true at w v c [] (d ∷ b) r u x y e =
    let next : r ≡ 39 ∷ (b ++ u) = e ∙ ap (λ n. n ∷ (b ++ u)) y.0 in absurd (subst (NotNext 39) next x.0 refl)
one_char_of false true at w v c (d ∷ a) [] r u x y e =
    let next : u ≡ 39 ∷ (a ++ r) = sym e ∙ ap (λ n. n ∷ (a ++ r)) x.0 in absurd (subst (NotNext 39) next y.0 refl)
one_char_of false true at w v c (d ∷ a) (g ∷ b) r u x y e = ((λ i. (x.0 ∙ sym y.0) i ∷ (x.1 ∙ sym y.1) i), x.2 ∙ sym y.2)
one_char_of false false at w v c a b r u x y e =
    let whole : encode_utf8 x.0 ++ r ≡ encode_utf8 y.0 ++ u = ap (λ l. l ++ r) (sym x.1) ∙ ap (λ l. c ∷ l) e ∙ ap (λ l. l ++ u) y.1 in
    let one = encode_same x.0 y.0 r u whole in
    let bytes : c ∷ a ≡ c ∷ b = x.1 ∙ ap encode_utf8 one.0 ∙ sym y.1 in
    (cc, x.2 ∙ ap (λ n. Item (Integer n)) one.0 ∙ sym y.2)

pub one_char : (at : ℕ) (w v : Found) (a b r u : List ℕ) → CharForm at w a r → CharForm at v b u → a ++ r ≡ b ++ u → (a ≡ b) × (w ≡ v)
one_char at w v [] [] r u x y e = (refl, x.1 ∙ sym y.1)
one_char at w v [] (d ∷ b) r u x y e = let h = x.0 in absurd cc
one_char at w v (c ∷ a) [] r u x y e = let h = y.0 in absurd cc
one_char at w v (c ∷ a) (d ∷ b) r u x y e =
    let head : d ≡ c = cc in
    let tail : a ++ r ≡ b ++ u = cc in
    let y' : CharOf (c == 92) (c == 39) at v c b u = subst (λ (n : ℕ). CharOf (n == 92) (n == 39) at v n b u) head y in
    let one = one_char_of (c == 92) (c == 39) at w v c a b r u x y' tail in
    ((λ i. sym head i ∷ one.0 i), one.1)

one_marked_form : (m : NumberMark) (at : ℕ) (w v : Found) (rest after : List ℕ) → MarkedForm m at w rest after → MarkedForm m at v rest after → w ≡ v
one_marked_form marks.Hex at w v rest after x y = x.2 ∙ sym y.2
one_marked_form marks.Octal at w v rest after x y = x.2 ∙ sym y.2
one_marked_form marks.Binary at w v rest after x y = x.2 ∙ sym y.2
one_marked_form marks.Code at w v rest after x y = (one_char at w v rest rest after after x y refl).1
one_marked_form marks.Nothing at w v rest after x y = absurd x

no_both : (at : ℕ) (w v : Found) (bytes after : List ℕ) → DigitForm at w bytes → IsMarked at v bytes after → ⊥
no_both at w v bytes after d m = no_decimal m.mark at at v w m.rest m.rest after m.form (subst (DigitForm at w) m.spelled d)

pub one_number : (at : ℕ) (w v : Found) (bytes after : List ℕ) → ((w v : Found) → DigitForm at w bytes → DigitForm at v bytes → w ≡ v) → NumberForm at w bytes after → NumberForm at v bytes after → w ≡ v
one_number at w v bytes after one p q = elim p [
  | inl d ↦ elim q [ inl e ↦ one w v d e | inr m ↦ absurd (no_both at w v bytes after d m) ]
  | inr m ↦ elim q [
    | inl e ↦ absurd (no_both at v w bytes after e m)
    | inr n ↦
        let mark : n.mark ≡ m.mark = let h = m.spelled in let k = n.spelled in cc in
        let rest : n.rest ≡ m.rest = let h = m.spelled in let k = n.spelled in cc in
        one_marked_form (mark_of m.mark) at w v m.rest after m.form (subst (λ (l : List ℕ). MarkedForm (mark_of m.mark) at v l after) rest (subst (λ (x : ℕ). MarkedForm (mark_of x) at v n.rest after) mark n.form))
  ]
]

-- no fault of the encoding
no_utf8_number' : (b : Bool) (at n place : ℕ) → Bad (faults.NotUtf8 place) ≡ (if b then Item (Integer n) else Bad (faults.NumberTooWide at)) → ⊥
no_utf8_number' true at n place h = cc
no_utf8_number' false at n place h = cc

no_utf8_char_of : (t s : Bool) (at n c : ℕ) (a r : List ℕ) → CharOf t s at (Bad (faults.NotUtf8 n)) c a r → ⊥
no_utf8_char_of true s at n c [] r x = let h = x.1 in cc
no_utf8_char_of true s at n c (d ∷ a) r x = let h = x.2 in cc
no_utf8_char_of false true at n c [] r x = let h = x.1 in cc
no_utf8_char_of false true at n c (d ∷ a) r x = let h = x.2 in cc
no_utf8_char_of false false at n c a r x = let h = x.2 in cc

no_utf8_char : (at n : ℕ) (a r : List ℕ) → CharForm at (Bad (faults.NotUtf8 n)) a r → ⊥
no_utf8_char at n [] r x = let h = x.1 in cc
no_utf8_char at n (c ∷ a) r x = no_utf8_char_of _ _ at n c a r x

pub no_utf8_marked : (m : NumberMark) (at n : ℕ) (rest after : List ℕ) → MarkedForm m at (Bad (faults.NotUtf8 n)) rest after → ⊥
no_utf8_marked marks.Hex at n rest after x = no_utf8_number' _ at (numeral 16 rest) n x.2
no_utf8_marked marks.Octal at n rest after x = no_utf8_number' _ at (numeral 8 rest) n x.2
no_utf8_marked marks.Binary at n rest after x = no_utf8_number' _ at (numeral 2 rest) n x.2
no_utf8_marked marks.Code at n rest after x = no_utf8_char at n rest after x
no_utf8_marked marks.Nothing at n rest after x = x

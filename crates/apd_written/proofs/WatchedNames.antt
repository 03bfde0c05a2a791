-- Names and numbers under the watch: what is watched for neither begins nor ends in them.
use Rattle.std.proofs.Common.{◌≡◌, ℕ, ◌<◌, ◌^◌, suc, length, List, [], ◌∷◌, refl, sym, ◌∙◌, ap, subst, arith, Bool, true, false}
use Rattle.std.specs.Prelude.{◌==◌, ◌&&◌, ◌||◌, ◌+◌, ◌/◌, ◌%◌, if◌then◌else◌, nat_lt, not, codes, ℤ, pos, negsuc}
use Rattle.std.specs.Char.{is_ascii_digit}
use Rattle.std.specs.Fmt.{decimal, signed_decimal}
use Rattle.std.specs.List.{list_all, flat_map}
use Rattle.std.proofs.lemmas.Bool.Decides.{nat_tests}
use Rattle.std.proofs.lemmas.Fmt.{decimal_is_IsNumeral, decimal_nonempty}
use Rattle.apd_term.specs.Names.{same_text}
use Rattle.apd_term.proofs.Naming.{equal_from_same_text}
use Rattle.apd_token.specs.Bytes.{is_small, is_word, is_graphic}
use Rattle.apd_write.specs.NameTexts.{is_word_name, is_graphic_name, is_solo_name, is_bracket_name, is_bare, begins_comment, hex_digit, hex_escape, quoted_byte, quoted, function_text, name_text}
use Rattle.apd_write.specs.Writing.{variable_text}
use Rattle.apd_reading_back.specs.Law.{IsWord}
use Rattle.apd_known.proofs.Truths.{both_left, both_right}
use Rattle.apd_written.proofs.Parts.{all_digits}
use Rattle.apd_written.proofs.Watching.{Watch, Free, Quoted, Slashed, Coded, step, watched, watched-append, IsStart, free_start, square_start, IsEnd, free_end, IsGap, free_gap, digits_gap, IsPast, free_past, word_past, IsCalm, AllCalm, IsCalming, all_calm-by, all-start, all-past, all-before, calm-gap}

-- Numbers.

pub calming_digits : IsCalming is_ascii_digit
calming_digits = record { quote = refl; square = refl; space = refl; closing = refl }

pub decimal-calm : (n : ℕ) → n < 2 ^ 64 → AllCalm (decimal n)
decimal-calm n l = all_calm-by is_ascii_digit calming_digits (decimal n) (all_digits (decimal n) (decimal_is_IsNumeral n l).0.1)

pub decimal-end : (n : ℕ) → n < 2 ^ 64 → (w : Watch) → IsStart w → IsEnd (watched w (decimal n))
decimal-end n l w s = all-start (decimal n) (decimal-calm n l) (decimal_nonempty n l) s

-- a byte before a number
marked-end : (b n : ℕ) → IsCalm b → n < 2 ^ 64 → (w : Watch) → IsStart w → IsEnd (watched w (b ∷ decimal n))
marked-end b n c l w s = all-start (b ∷ decimal n) (c, decimal-calm n l) (omega arith) s

pub signed-end : (i : ℤ) → IsWord i → (w : Watch) → IsStart w → IsEnd (watched w (signed_decimal i))
signed-end (pos n) l w s = decimal-end n (omega (arith, l)) w s
signed-end (negsuc n) l w s = marked-end 45 (suc n) (record { quote = refl; square = refl; space = refl; closing = refl }) (omega (arith, l)) w s

pub variable-end : (v : ℕ) → v < 2 ^ 64 → (w : Watch) → IsStart w → IsEnd (watched w (variable_text v))
variable-end v l w s = marked-end 95 v (record { quote = refl; square = refl; space = refl; closing = refl }) l w s

-- Names without quotes.

-- calm bytes, of which the first is no digit
record IsBare (bs : List ℕ) : Type 0 where
  first : ℕ
  others : List ℕ
  is : bs ≡ first ∷ others
  calm : AllCalm (first ∷ others)
  no_digit : is_ascii_digit first ≡ false

calming_words : IsCalming is_word
calming_words = record { quote = refl; square = refl; space = refl; closing = refl }

calming_graphics : IsCalming is_graphic
calming_graphics = record { quote = refl; square = refl; space = refl; closing = refl }

small_no_digit : (b : ℕ) → is_small b ≡ true → is_ascii_digit b ≡ false
small_no_digit b h = grind (arith, nat_tests, h)

graphic_no_digit : (b : ℕ) → is_graphic b ≡ true → is_ascii_digit b ≡ false
graphic_no_digit b h = grind (arith, nat_tests, h)

word_bare : (bs : List ℕ) → is_word_name bs ≡ true → IsBare bs
word_bare [] e = absurd (cc)
word_bare (b ∷ bs) e = record {
  first = b;
  others = bs;
  is = refl;
  calm = all_calm-by is_word calming_words (b ∷ bs) (both_right (is_small b) (list_all is_word (b ∷ bs)) e);
  no_digit = small_no_digit b (both_left (is_small b) (list_all is_word (b ∷ bs)) e);
}

graphic_bare : (bs : List ℕ) → is_graphic_name bs ≡ true → IsBare bs
graphic_bare [] e = absurd (cc)
graphic_bare (b ∷ bs) e =
    let all : list_all is_graphic (b ∷ bs) ≡ true =
    both_right (not (length (b ∷ bs) == 0)) (list_all is_graphic (b ∷ bs))
    (both_left (not (length (b ∷ bs) == 0) && list_all is_graphic (b ∷ bs)) (not (same_text (b ∷ bs) (codes ".")))
    (both_left (not (length (b ∷ bs) == 0) && list_all is_graphic (b ∷ bs) && not (same_text (b ∷ bs) (codes "."))) (not (begins_comment (b ∷ bs))) e)) in
    record {
      first = b;
      others = bs;
      is = refl;
      calm = all_calm-by is_graphic calming_graphics (b ∷ bs) all;
      no_digit = graphic_no_digit b (both_left (is_graphic b) (list_all is_graphic bs) all);
    }

one_bare : (b : ℕ) (bs : List ℕ) → bs ≡ b ∷ [] → IsCalm b → is_ascii_digit b ≡ false → IsBare bs
one_bare b bs e c d = record { first = b; others = []; is = e; calm = (c, tt); no_digit = d }

solo_bare : (bs : List ℕ) → is_solo_name bs ≡ true → IsBare bs
solo_bare bs e = by (same_text bs (codes "!")) (same_text bs (codes ";")) refl refl e
  where
    by : (x y : Bool) → same_text bs (codes "!") ≡ x → same_text bs (codes ";") ≡ y → (x || y) ≡ true → IsBare bs
    by true y f g h = one_bare 33 bs (equal_from_same_text bs (codes "!") f) (record { quote = refl; square = refl; space = refl; closing = refl }) refl
    by false true f g h = one_bare 59 bs (equal_from_same_text bs (codes ";") g) (record { quote = refl; square = refl; space = refl; closing = refl }) refl
    by false false f g h = absurd (cc)

bare_is : (bs : List ℕ) → is_bare bs ≡ true → IsBare bs
bare_is bs e = by (is_word_name bs) (is_graphic_name bs) (is_solo_name bs) refl refl refl e
  where
    by : (x y z : Bool) → is_word_name bs ≡ x → is_graphic_name bs ≡ y → is_solo_name bs ≡ z → (x || y || z) ≡ true → IsBare bs
    by true y z f g h k = word_bare bs f
    by false true z f g h k = graphic_bare bs g
    by false false true f g h k = solo_bare bs h
    by false false false f g h k = absurd (cc)

-- Names in quotes.

low_digit : (d : ℕ) → nat_lt d 10 ≡ true → (d + 48 == 92) ≡ false
low_digit d h = grind (arith, nat_tests, h)

high_digit : (d : ℕ) → nat_lt d 10 ≡ false → (d + 87 == 92) ≡ false
high_digit d h = grind (arith, nat_tests, h)

hex-no_slash : (d : ℕ) → (hex_digit d == 92) ≡ false
hex-no_slash d = by (nat_lt d 10) refl
  where
    by : (c : Bool) → nat_lt d 10 ≡ c → ((if c then d + 48 else d + 87) == 92) ≡ false
    by true e = low_digit d e
    by false e = high_digit d e

hex-quoted : (b : ℕ) → watched Quoted (hex_escape b) ≡ Quoted
unfolding step
hex-quoted b =
    ap (λ t. watched (if t then Quoted else Coded) (hex_digit (b % 16) ∷ 92 ∷ [])) (hex-no_slash (b / 16))
    ∙ ap (λ t. watched (if t then Quoted else Coded) (92 ∷ [])) (hex-no_slash (b % 16))

byte-quoted : (b : ℕ) → watched Quoted (quoted_byte b) ≡ Quoted
unfolding step
byte-quoted b = by (b == 92) (b == 39) (b == 10) (b == 9) (nat_lt b 32 || b == 127) refl refl
  where
    by : (v w x y z : Bool) → (b == 92) ≡ v → (b == 39) ≡ w
        → watched Quoted (if v then codes "\\\\" else (if w then codes "\\'" else (if x then codes "\\n" else (if y then codes "\\t" else (if z then hex_escape b else b ∷ []))))) ≡ Quoted
    by true w x y z e f = refl
    by false true x y z e f = refl
    by false false true y z e f = refl
    by false false false true z e f = refl
    by false false false false true e f = hex-quoted b
    by false false false false false e f = ap (λ t. if t then Free else (if b == 92 then Slashed else Quoted)) f ∙ ap (λ t. if t then Slashed else Quoted) e

bytes-quoted : (bs : List ℕ) → watched Quoted (flat_map quoted_byte bs) ≡ Quoted
bytes-quoted [] = refl
bytes-quoted (b ∷ bs) = watched-append Quoted (quoted_byte b) (flat_map quoted_byte bs) ∙ ap (λ w. watched w (flat_map quoted_byte bs)) (byte-quoted b) ∙ bytes-quoted bs

quoted-free : (bs : List ℕ) (w : Watch) → step w 39 ≡ Quoted → watched w (quoted bs) ≡ Free
unfolding step
quoted-free bs w e =
    watched-append w (39 ∷ flat_map quoted_byte bs) (39 ∷ [])
    ∙ ap (λ v. step (watched v (flat_map quoted_byte bs)) 39) e
    ∙ ap (λ v. step v 39) (bytes-quoted bs)

start-quote : {w : Watch} → IsStart w → step w 39 ≡ Quoted
unfolding step
start-quote free_start = refl
start-quote square_start = refl

gap-quote : {w : Watch} → IsGap w → step w 39 ≡ Quoted
unfolding step
gap-quote free_gap = refl
gap-quote digits_gap = refl

free-space : step Free 32 ≡ Free
unfolding step
free-space = refl

-- the text of a name where a term begins, and behind a left operand; with a space behind it nothing is left of it
pub record IsNameText (text : List ℕ) : Type 0 where
  pub start : (w : Watch) → IsStart w → IsEnd (watched w text)
  pub gap : (w : Watch) → IsGap w → IsPast (watched w text)
  pub before : (w : Watch) → IsStart w → step (watched w text) 32 ≡ Free

bare_name : (bs : List ℕ) → IsBare bs → IsNameText bs
bare_name bs b = record {
  start = λ w s. subst (λ t. IsEnd (watched w t)) (sym b.is) (all-start (b.first ∷ b.others) b.calm (omega arith) s);
  gap = λ w g. subst (λ t. IsPast (watched w t)) (sym b.is) (all-past b.others b.calm.1 (calm-gap b.first b.calm.0 b.no_digit g));
  before = λ w s. subst (λ t. step (watched w t) 32 ≡ Free) (sym b.is) (all-before b.first b.others b.calm b.no_digit s);
}

quoted_name : (bs : List ℕ) → IsNameText (quoted bs)
quoted_name bs = record {
  start = λ w s. subst IsEnd (sym (quoted-free bs w (start-quote s))) free_end;
  gap = λ w g. subst IsPast (sym (quoted-free bs w (gap-quote g))) free_past;
  before = λ w s. ap (λ v. step v 32) (quoted-free bs w (start-quote s)) ∙ free-space;
}

pub function_name : (bs : List ℕ) → IsNameText (function_text bs)
function_name bs = by (is_bare bs) refl
  where
    by : (c : Bool) → is_bare bs ≡ c → IsNameText (if c then bs else quoted bs)
    by true e = bare_name bs (bare_is bs e)
    by false e = quoted_name bs

brackets-start : {w : Watch} → IsStart w → watched w (91 ∷ 93 ∷ []) ≡ Free
unfolding step
brackets-start free_start = refl
brackets-start square_start = refl

brackets-gap : {w : Watch} → IsGap w → watched w (91 ∷ 93 ∷ []) ≡ Free
unfolding step
brackets-gap free_gap = refl
brackets-gap digits_gap = refl

braces-start : {w : Watch} → IsStart w → watched w (123 ∷ 125 ∷ []) ≡ Free
unfolding step
braces-start free_start = refl
braces-start square_start = refl

braces-gap : {w : Watch} → IsGap w → IsPast (watched w (123 ∷ 125 ∷ []))
unfolding step
braces-gap free_gap = free_past
braces-gap digits_gap = word_past

brackets_name : IsNameText (codes "[]")
brackets_name = record {
  start = λ w s. subst IsEnd (sym (brackets-start s)) free_end;
  gap = λ w g. subst IsPast (sym (brackets-gap g)) free_past;
  before = λ w s. ap (λ v. step v 32) (brackets-start s) ∙ free-space;
}

braces_name : IsNameText (codes "{}")
braces_name = record {
  start = λ w s. subst IsEnd (sym (braces-start s)) free_end;
  gap = λ w g. braces-gap g;
  before = λ w s. ap (λ v. step v 32) (braces-start s) ∙ free-space;
}

pub name_name : (bs : List ℕ) → IsNameText (name_text bs)
name_name bs = by (is_bracket_name bs) refl
  where
    bracket : (x y : Bool) → same_text bs (codes "[]") ≡ x → same_text bs (codes "{}") ≡ y → (x || y) ≡ true → IsNameText bs
    bracket true y f g h = subst IsNameText (sym (equal_from_same_text bs (codes "[]") f)) brackets_name
    bracket false true f g h = subst IsNameText (sym (equal_from_same_text bs (codes "{}") g)) braces_name
    bracket false false f g h = absurd (cc)

    by : (c : Bool) → is_bracket_name bs ≡ c → IsNameText (if c then bs else function_text bs)
    by true e = bracket (same_text bs (codes "[]")) (same_text bs (codes "{}")) refl refl e
    by false e = function_name bs

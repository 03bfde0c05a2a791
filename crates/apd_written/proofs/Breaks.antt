-- No newline stands in what is written of a term.
use Rattle.std.proofs.Common.{◌≡◌, ℕ, ◌+◌, suc, List, [], ◌∷◌, ◌++◌, refl, sym, ◌∙◌, ap, subst, arith, Bool, true, false, Option, Some, None}
use Rattle.std.specs.Prelude.{nat_eq, nat_lt, if◌then◌else◌, not, length, ◌&&◌, ◌||◌, ◌==◌, ◌/◌, ◌%◌, ℤ, codes, pos, negsuc}
use Rattle.std.specs.Int.{IsInRange as IsDigitByte}
use Rattle.std.specs.Fmt.{decimal, signed_decimal}
use Rattle.std.specs.List.{list_all, flat_map}
use Rattle.std.proofs.lemmas.Bool.Decides.{nat_tests}
use Rattle.apd_term.specs.declared.term.NameId.{NameId}
use Rattle.apd_term.specs.declared.standard.TheConstants.{NIL, CELL, CURLY, COMMA}
use Rattle.apd_term.specs.Names.{text_of_name, same_text}
use Rattle.apd_term.specs.Term.{Term, Terms, variable, integer, compound, none, more}
use Rattle.apd_term.proofs.Naming.{equal_from_same_text}
use Rattle.apd_token.specs.Bytes.{is_small, is_word, is_graphic}
use Rattle.apd_ops.specs.Operators.{left_by, right_by}
use Rattle.apd_ops.specs.Table.{Meaning, Table, prefix_in, infix_in}
use Rattle.apd_write.specs.NameTexts.{is_word_name, is_graphic_name, is_solo_name, is_bracket_name, is_bare, begins_comment, hex_digit, hex_escape, quoted_byte, quoted, function_text, name_text}
use Rattle.apd_write.specs.Writing.{Part, is_same_name, is_operator_atom, is_negative_integer, in_parentheses, fitted, between, right_operand, left_operand, prefix_text, infix_text, further_arguments, arguments_text, function, one_text, two_text, list_text, arranged, rest_after, variable_text, written, rest_text, parts}
use Rattle.apd_known.proofs.Truths.{both_left, both_right}
use Rattle.apd_written.specs.Says.{HasNoBreak}
use Rattle.apd_written.proofs.Digits.{AllDigitBytes, decimal-digits}
use Rattle.apd_written.proofs.Saying.{break-append}

-- bytes that pass a test which a newline doesn't
pub tested-break : (test : ℕ → Bool) → test 10 ≡ false → (bs : List ℕ) → list_all test bs ≡ true → HasNoBreak bs
tested-break test no10 [] h = tt
tested-break test no10 (b ∷ bs) h = by (tested-break test no10 bs) (test b) (list_all test bs) refl refl h
  where
    other : test b ≡ true → (c : Bool) → nat_eq b 10 ≡ c → nat_eq b 10 ≡ false
    other e false f = f
    other e true f = let same : b ≡ 10 = grind (arith, nat_tests, f) in absurd (let bad : true ≡ false = sym e ∙ ap test same ∙ no10 in cc)

    by : (list_all test bs ≡ true → HasNoBreak bs) → (x y : Bool) → test b ≡ x → list_all test bs ≡ y → (x && y) ≡ true → HasNoBreak (b ∷ bs)
    by ih true true e f k = (other e (nat_eq b 10) refl, ih f)
    by ih true false e f k = absurd (cc)
    by ih false y e f k = absurd (cc)

-- a text whose bytes are known
pub codes-break : (bs : List ℕ) → list_all (λ b. not (nat_eq b 10)) bs ≡ true → HasNoBreak bs
codes-break bs e = tested-break (λ b. not (nat_eq b 10)) refl bs e

parens-break : (t : List ℕ) → HasNoBreak t → HasNoBreak (in_parentheses t)
parens-break t h = break-append (codes "(" ++ t) (codes ")") (break-append (codes "(") t (refl, tt) h) (refl, tt)

pub if-break : (c : Bool) (t u : List ℕ) → HasNoBreak t → HasNoBreak u → HasNoBreak (if c then t else u)
if-break true t u h k = h
if-break false t u h k = k

-- Numbers.

in_digits : (c : ℕ) → IsDigitByte 48 57 c → nat_eq c 10 ≡ false
in_digits c h = grind (arith, nat_tests, h)

digits-break : (ds : List ℕ) → AllDigitBytes ds → HasNoBreak ds
digits-break [] h = tt
digits-break (d ∷ ds) h = (in_digits d h.0, digits-break ds h.1)

pub decimal-break : (n : ℕ) → HasNoBreak (decimal n)
decimal-break n = digits-break (decimal n) (decimal-digits n)

pub signed-break : (i : ℤ) → HasNoBreak (signed_decimal i)
signed-break (pos n) = decimal-break n
signed-break (negsuc n) = (refl, decimal-break (suc n))

variable-break : (v : ℕ) → HasNoBreak (variable_text v)
variable-break v = (refl, decimal-break v)

-- Names.

word_not : is_word 10 ≡ false
word_not = refl

graphic_not : is_graphic 10 ≡ false
graphic_not = refl

word_name-break : (bs : List ℕ) → is_word_name bs ≡ true → HasNoBreak bs
word_name-break [] e = tt
word_name-break (b ∷ bs) e = tested-break is_word word_not (b ∷ bs) (both_right (is_small b) (list_all is_word (b ∷ bs)) e)

graphic_name-break : (bs : List ℕ) → is_graphic_name bs ≡ true → HasNoBreak bs
graphic_name-break bs e =
    tested-break is_graphic graphic_not bs (both_right (not (length bs == 0)) (list_all is_graphic bs)
    (both_left (not (length bs == 0) && list_all is_graphic bs) (not (same_text bs (codes "."))) (both_left (not (length bs == 0) && list_all is_graphic bs && not (same_text bs (codes "."))) (not (begins_comment bs)) e)))

solo_name-break : (bs : List ℕ) → is_solo_name bs ≡ true → HasNoBreak bs
solo_name-break bs e = by (same_text bs (codes "!")) (same_text bs (codes ";")) refl refl e
  where
    by : (x y : Bool) → same_text bs (codes "!") ≡ x → same_text bs (codes ";") ≡ y → (x || y) ≡ true → HasNoBreak bs
    by true y f g h = subst HasNoBreak (sym (equal_from_same_text bs (codes "!") f)) (refl, tt)
    by false true f g h = subst HasNoBreak (sym (equal_from_same_text bs (codes ";") g)) (refl, tt)
    by false false f g h = absurd (cc)

bare-break : (bs : List ℕ) → is_bare bs ≡ true → HasNoBreak bs
bare-break bs e = by (is_word_name bs) (is_graphic_name bs) (is_solo_name bs) refl refl refl e
  where
    by : (x y z : Bool) → is_word_name bs ≡ x → is_graphic_name bs ≡ y → is_solo_name bs ≡ z → (x || y || z) ≡ true → HasNoBreak bs
    by true y z f g h k = word_name-break bs f
    by false true z f g h k = graphic_name-break bs g
    by false false true f g h k = solo_name-break bs h
    by false false false f g h k = absurd (cc)

hex-break : (d : ℕ) → nat_eq (hex_digit d) 10 ≡ false
hex-break d = by (nat_lt d 10)
  where
    by : (c : Bool) → nat_eq (if c then d + 48 else d + 87) 10 ≡ false
    by true = grind (arith, nat_tests)
    by false = grind (arith, nat_tests)

byte-break : (b : ℕ) → HasNoBreak (quoted_byte b)
byte-break b = by (b == 92) (b == 39) (b == 10) (b == 9) (nat_lt b 32 || b == 127) refl
  where
    by : (v w x y z : Bool) → (b == 10) ≡ x → HasNoBreak (if v then codes "\\\\" else (if w then codes "\\'" else (if x then codes "\\n" else (if y then codes "\\t" else (if z then hex_escape b else b ∷ [])))))
    by true w x y z e = (refl, (refl, tt))
    by false true x y z e = (refl, (refl, tt))
    by false false true y z e = (refl, (refl, tt))
    by false false false true z e = (refl, (refl, tt))
    by false false false false true e = (refl, (refl, (hex-break (b / 16), (hex-break (b % 16), (refl, tt)))))
    by false false false false false e = (e, tt)

bytes-break : (bs : List ℕ) → HasNoBreak (flat_map quoted_byte bs)
bytes-break [] = tt
bytes-break (b ∷ bs) = break-append (quoted_byte b) (flat_map quoted_byte bs) (byte-break b) (bytes-break bs)

function-break : (bs : List ℕ) → HasNoBreak (function_text bs)
function-break bs = by (is_bare bs) refl
  where
    by : (c : Bool) → is_bare bs ≡ c → HasNoBreak (if c then bs else quoted bs)
    by true e = bare-break bs e
    by false e = break-append (codes "'" ++ flat_map quoted_byte bs) (codes "'") (break-append (codes "'") (flat_map quoted_byte bs) (refl, tt) (bytes-break bs)) (refl, tt)

pub name-break : (bs : List ℕ) → HasNoBreak (name_text bs)
name-break bs = by (is_bracket_name bs) refl
  where
    bracket : (x y : Bool) → same_text bs (codes "[]") ≡ x → same_text bs (codes "{}") ≡ y → (x || y) ≡ true → HasNoBreak bs
    bracket true y f g h = subst HasNoBreak (sym (equal_from_same_text bs (codes "[]") f)) (refl, (refl, tt))
    bracket false true f g h = subst HasNoBreak (sym (equal_from_same_text bs (codes "{}") g)) (refl, (refl, tt))
    bracket false false f g h = absurd (cc)

    by : (c : Bool) → is_bracket_name bs ≡ c → HasNoBreak (if c then bs else function_text bs)
    by true e = bracket (same_text bs (codes "[]")) (same_text bs (codes "{}")) refl refl e
    by false e = function-break bs

-- Terms.

record IsSafe (p : Part) : Type 0 where
  text : (place : ℕ) → HasNoBreak (p.text place)
  rest : HasNoBreak p.rest

abbrev AreSafe : List Part → Type 0
AreSafe [] = Unit {0}
AreSafe (p ∷ ps) = IsSafe p × AreSafe ps

module _ (ops : Table) where
  right-break : (place : ℕ) (p : Part) → IsSafe p → HasNoBreak (right_operand ops place p)
  right-break place p s = if-break (is_operator_atom ops p.term) (in_parentheses (p.text 1200)) (p.text place) (parens-break (p.text 1200) (s.text 1200)) (s.text place)

  left-break : (place : ℕ) (p : Part) → IsSafe p → HasNoBreak (left_operand ops place p)
  left-break place p s = if-break (is_negative_integer p.term) (in_parentheses (p.text 1200)) (right_operand ops place p) (parens-break (p.text 1200) (s.text 1200)) (right-break place p s)

  fitted-break : (place priority : ℕ) (t : List ℕ) → HasNoBreak t → HasNoBreak (fitted place priority t)
  fitted-break place priority t h = if-break (nat_lt place priority) (in_parentheses t) t (parens-break t h) h

  between-break : (f : NameId) (t : List ℕ) → HasNoBreak t → HasNoBreak (between f t)
  between-break f t h = if-break (is_same_name f COMMA) (codes ", ") (codes " " ++ t ++ codes " ") (refl, (refl, tt)) (break-append (codes " " ++ t) (codes " ") (break-append (codes " ") t (refl, tt) h) (refl, tt))

  prefix-break : (m : Meaning) (t : List ℕ) (place : ℕ) (p : Part) → HasNoBreak t → IsSafe p → HasNoBreak (prefix_text ops m t place p)
  prefix-break m t place p h s =
      fitted-break place m.0 (t ++ codes " " ++ left_operand ops (right_by m.1 m.0) p) (break-append (t ++ codes " ") (left_operand ops (right_by m.1 m.0) p) (break-append t (codes " ") h (refl, tt)) (left-break (right_by m.1 m.0) p s))

  infix-break : (m : Meaning) (f : NameId) (t : List ℕ) (place : ℕ) (p q : Part) → HasNoBreak t → IsSafe p → IsSafe q → HasNoBreak (infix_text ops m f t place p q)
  infix-break m f t place p q h s r =
      let left = left_operand ops (left_by m.1 m.0) p in
      let right = right_operand ops (right_by m.1 m.0) q in
      fitted-break place m.0 (left ++ between f t ++ right) (break-append (left ++ between f t) right (break-append left (between f t) (left-break (left_by m.1 m.0) p s) (between-break f t h)) (right-break (right_by m.1 m.0) q r))

  further-break : (ps : List Part) → AreSafe ps → HasNoBreak (further_arguments ps)
  further-break [] s = tt
  further-break (p ∷ ps) s = break-append (codes "," ++ p.text 999) (further_arguments ps) (break-append (codes ",") (p.text 999) (refl, tt) (s.0.text 999)) (further-break ps s.1)

  arguments-break : (ps : List Part) → AreSafe ps → HasNoBreak (arguments_text ps)
  arguments-break [] s = tt
  arguments-break (p ∷ ps) s = break-append (p.text 999) (further_arguments ps) (s.0.text 999) (further-break ps s.1)

  call-break : (name : List ℕ) (ps : List Part) → AreSafe ps → HasNoBreak (function name ps)
  call-break name ps s = break-append (function_text name) (in_parentheses (arguments_text ps)) (function-break name) (parens-break (arguments_text ps) (arguments-break ps s))

  one-break : (m : Option Meaning) (f : NameId) (name : List ℕ) (place : ℕ) (p : Part) → IsSafe p → HasNoBreak (one_text ops m f name place p)
  one-break None f name place p s = if-break (is_same_name f CURLY) (codes "{" ++ p.text 1200 ++ codes "}") (function name (p ∷ [])) (break-append (codes "{" ++ p.text 1200) (codes "}") (break-append (codes "{") (p.text 1200) (refl, tt) (s.text 1200)) (refl, tt)) (call-break name (p ∷ []) (s, tt))
  one-break (Some m) f name place p s = prefix-break m (name_text name) place p (name-break name) s

  two-break : (m : Option Meaning) (f : NameId) (name : List ℕ) (place : ℕ) (p q : Part) → IsSafe p → IsSafe q → HasNoBreak (two_text ops m f name place p q)
  two-break None f name place p q s r = call-break name (p ∷ q ∷ []) (s, (r, tt))
  two-break (Some m) f name place p q s r = infix-break m f (name_text name) place p q (name-break name) s r

  list-break : (p q : Part) → IsSafe p → IsSafe q → HasNoBreak (list_text p q)
  list-break p q s r = break-append (p.text 999) q.rest (s.text 999) r.rest

  arranged-break : (f : NameId) (name : List ℕ) (place : ℕ) (ps : List Part) → AreSafe ps → HasNoBreak (arranged ops f name place ps)
  arranged-break f name place [] s = name-break name
  arranged-break f name place (p ∷ []) s = one-break (prefix_in ops f.0) f name place p s.0
  arranged-break f name place (p ∷ q ∷ []) s =
      if-break (is_same_name f CELL) (codes "[" ++ list_text p q) (two_text ops (infix_in ops f.0) f name place p q) (break-append (codes "[") (list_text p q) (refl, tt) (list-break p q s.0 s.1.0)) (two-break (infix_in ops f.0) f name place p q s.0 s.1.0)
  arranged-break f name place (p ∷ q ∷ r ∷ ps) s = call-break name (p ∷ q ∷ r ∷ ps) s

  tail-break : (t : List ℕ) → HasNoBreak t → HasNoBreak (codes "|" ++ t ++ codes "]")
  tail-break t h = break-append (codes "|" ++ t) (codes "]") (break-append (codes "|") t (refl, tt) h) (refl, tt)

  after-break : (f : NameId) (name : List ℕ) (ps : List Part) → AreSafe ps → HasNoBreak (rest_after ops f name ps)
  after-break f name [] s = if-break (is_same_name f NIL) (codes "]") (codes "|" ++ name_text name ++ codes "]") (refl, tt) (tail-break (name_text name) (name-break name))
  after-break f name (p ∷ []) s = tail-break (arranged ops f name 999 (p ∷ [])) (arranged-break f name 999 (p ∷ []) s)
  after-break f name (p ∷ q ∷ []) s =
      if-break (is_same_name f CELL) (codes "," ++ list_text p q) (codes "|" ++ arranged ops f name 999 (p ∷ q ∷ []) ++ codes "]") (break-append (codes ",") (list_text p q) (refl, tt) (list-break p q s.0 s.1.0))
      (tail-break (arranged ops f name 999 (p ∷ q ∷ [])) (arranged-break f name 999 (p ∷ q ∷ []) s))
  after-break f name (p ∷ q ∷ r ∷ ps) s = tail-break (arranged ops f name 999 (p ∷ q ∷ r ∷ ps)) (arranged-break f name 999 (p ∷ q ∷ r ∷ ps) s)

  mutual
    pub written-break : (names : List (List ℕ)) (t : Term) (place : ℕ) → HasNoBreak (written ops names t place)
    written-break names (variable v) place = variable-break v
    written-break names (integer i) place = signed-break i
    written-break names (compound f ts) place = arranged-break f (text_of_name names f) place (parts ops names ts) (parts-safe names ts)

    rest-break : (names : List (List ℕ)) (t : Term) → HasNoBreak (rest_text ops names t)
    rest-break names (variable v) = tail-break (variable_text v) (variable-break v)
    rest-break names (integer i) = tail-break (signed_decimal i) (signed-break i)
    rest-break names (compound f ts) = after-break f (text_of_name names f) (parts ops names ts) (parts-safe names ts)

    parts-safe : (names : List (List ℕ)) (ts : Terms) → AreSafe (parts ops names ts)
    parts-safe names none = tt
    parts-safe names (more t ts) = (record { text = λ place. written-break names t place; rest = rest-break names t }, parts-safe names ts)

-- How many bytes the tokens of a text have, and how many characters an item in double quotes stands for.
use Rattle.std.proofs.Common.{◌≡◌, ℕ, ◌+◌, ◌-◌, ◌<◌, ◌≤◌, List, [], ◌∷◌, ◌++◌, length, Bool, true, false, cond, refl, sym, ◌∙◌, ap, subst, arith, length-append}
use Rattle.std.specs.Prelude.{encode_utf8, nat_lt, ◌==◌}
use Rattle.std.specs.Char.{digit_value}
use Rattle.std.proofs.lemmas.Str.{length-encode}
use Rattle.apd_token.specs.Bytes.{escape_of, simple_code}
use Rattle.apd_token.specs.Quotes.{IsDigits, numeral, EscapeOf, ElementOf, IsElement, Element, AreElements, spelling, meaning}
use Rattle.apd_token.specs.declared.bytes.Escape.{Escape}
use Rattle.apd_token.specs.declared.bytes.Escape.TheVariants.{Newline, Octal, Hex, Simple, Unknown}
use Rattle.apd_token.specs.declared.items.TokenKind.TheVariants.{Codes}
use Rattle.apd_token.specs.declared.items.Token.{Token}
use Rattle.apd_token.specs.declared.found.Found.{Found}
use Rattle.apd_token.specs.declared.found.Found.TheVariants.{Passed, Item, Bad}
use Rattle.apd_token.specs.Grammar.{Piece, Divides, token_of, tokens_of, spaced_behind, HasTokens, ContentOf}
use Rattle.apd_token.proofs.Counting.{some_byte}

-- the bytes of the tokens
abbrev pub spans : List Token → ℕ
spans [] = 0
spans (t ∷ ts) = (t.end - t.start) + spans ts

-- each token has a byte and ends within the text
abbrev pub AreWithin : ℕ → List Token → Type 0
AreWithin total [] = Unit {0}
AreWithin total (t ∷ ts) = (t.start < t.end) × (t.end ≤ total) × AreWithin total ts

pieces_spans : (at : ℕ) (spaced : Bool) (ps : List Piece) (text rest : List ℕ) → Divides at ps text rest → (spans (tokens_of at spaced ps) ≤ length text) × AreWithin (at + length text) (tokens_of at spaced ps)
pieces_spans at spaced [] text rest d = (omega arith, tt)
pieces_spans at spaced (p ∷ ps) text rest d =
    let begins = d.1 in
    let one = some_byte at p.what p.bytes d.0 begins.form in
    let size : length text ≡ length p.bytes + length d.0 = ap length begins.spelled ∙ length-append p.bytes d.0 in
    let next = pieces_spans (at + length p.bytes) (spaced_behind p) ps d.0 rest d.3 in
    let le : spans (tokens_of (at + length p.bytes) (spaced_behind p) ps) ≤ length d.0 = next.0 in
    let same : at + length p.bytes + length d.0 ≡ at + length text = omega arith in
    let within : AreWithin (at + length text) (tokens_of (at + length p.bytes) (spaced_behind p) ps) = subst (λ (n : ℕ). AreWithin n (tokens_of (at + length p.bytes) (spaced_behind p) ps)) same next.1 in
    by p.what (tokens_of (at + length p.bytes) (spaced_behind p) ps) (omega arith) (omega arith) (omega arith) within
  where
    by : (w : Found) (ts : List Token) → length p.bytes + spans ts ≤ length text → at < at + length p.bytes → at + length p.bytes ≤ at + length text → AreWithin (at + length text) ts
        → (spans (token_of at spaced (record { what = w; bytes = p.bytes }) ++ ts) ≤ length text) × AreWithin (at + length text) (token_of at spaced (record { what = w; bytes = p.bytes }) ++ ts)
    by Passed ts le some room f = (omega arith, f)
    by (Item k) ts le some room f = (omega arith, (some, room, f))
    by (Bad e) ts le some room f = (omega arith, f)

pub tokens_within : (text : List ℕ) (ts : List Token) → HasTokens text ts → (spans ts ≤ length text) × AreWithin (length text) ts
tokens_within text ts h =
    let size : length h.front + length h.rest ≡ length text = sym (ap length h.spelled ∙ length-append h.front h.rest) in
    let all = pieces_spans (length h.front) true h.pieces h.rest [] h.divides in
    let le : spans (tokens_of (length h.front) true h.pieces) ≤ length h.rest = all.0 in
    let same : spans ts ≡ spans (tokens_of (length h.front) true h.pieces) = ap spans h.tokens in
    (omega arith, subst (AreWithin (length text)) (sym h.tokens) (subst (λ (n : ℕ). AreWithin n (tokens_of (length h.front) true h.pieces)) size all.1))

-- a character has at most four bytes, and a small one at most two
four_bytes : (c : ℕ) → length (encode_utf8 c) ≤ 4
four_bytes c = rw (length-encode c) (by (nat_lt c 0x80) (nat_lt c 0x800) (nat_lt c 0x1_0000))
  where
    by : (x y z : Bool) → cond x 1 (cond y 2 (cond z 3 4)) ≤ 4
    by true y z = omega arith
    by false true z = omega arith
    by false false true = omega arith
    by false false false = omega arith

two_bytes : (c : ℕ) → c < 0x800 → length (encode_utf8 c) ≤ 2
two_bytes c lt = rw (length-encode c) (by (nat_lt c 0x80) (nat_lt c 0x800) (small (nat_lt c 0x800) refl))
  where
    small : (y : Bool) → nat_lt c 0x800 ≡ y → y ≡ true
    small true e = refl
    small false e = grind arith

    by : (x y : Bool) → y ≡ true → cond x 1 (cond y 2 (cond (nat_lt c 0x1_0000) 3 4)) ≤ 2
    by true y e = omega arith
    by false true e = omega arith
    by false false e = absurd cc

digit_low : (c : ℕ) → digit_value c < 0x800
digit_low c = grind arith

simple_low : (e : ℕ) → escape_of e ≡ Simple → simple_code e < 0x800
simple_low e is = grind arith

digits_length : {set : _} (bs ds : List ℕ) → IsDigits set bs ds → length bs ≡ length ds + 1
digits_length bs ds h = ap length h.spelled ∙ length-append ds (92 ∷ [])

-- what an element stands for has no more bytes than the element
escape_few : (k : Escape) (e : ℕ) (bs value : List ℕ) → k ≡ escape_of e → EscapeOf k e bs value → length value ≤ length bs + 2
escape_few Newline e bs value is h = let v : length value ≡ 0 = ap length h.1 in omega arith
escape_few Octal e bs value is h = by h.1.0 (digits_length bs h.1.0 h.1.1) h.1.2
  where
    v : length value ≡ length (encode_utf8 h.0)
    v = ap length h.2

    by : (ds : List ℕ) → length bs ≡ length ds + 1 → h.0 ≡ numeral 8 (e ∷ ds) → length value ≤ length bs + 2
    by [] size code = let low = digit_low e in let two = two_bytes h.0 (omega arith) in omega (arith, v)
    by (d ∷ ds) size code = let four = four_bytes h.0 in omega (arith, v)
escape_few Hex e bs value is h =
    let v : length value ≡ length (encode_utf8 h.0) = ap length h.2 in
    let size = digits_length bs h.1.0 h.1.1 in
    let four = four_bytes h.0 in
    let some = h.1.2 in
    omega arith
escape_few Simple e bs value is h =
    let v : length value ≡ length (encode_utf8 h.0) = ap length h.2 in
    let two = two_bytes h.0 (subst (λ (c : ℕ). c < 0x800) (sym h.1.1) (simple_low e (sym is))) in
    omega arith
escape_few Unknown e bs value is h = absurd h

element_few : (q : ℕ) (bytes value : List ℕ) → IsElement q bytes value → length value ≤ length bytes
element_few q [] value h = absurd h
element_few q (b ∷ bytes) value h = by (b == 92) (b == q) bytes h
  where
    by : (x y : Bool) (bs : List ℕ) → ElementOf x y q b bs value → length value ≤ length (b ∷ bs)
    by true y [] k = absurd k
    by true y (e ∷ bs) k = let f = escape_few (escape_of e) e bs value refl k in omega arith
    by false true bs k = let u : length bs ≡ 1 = ap length k.0 in let v : length value ≡ 1 = ap length k.1 in omega arith
    by false false bs k = let u : length bs ≡ 0 = ap length k.0 in let v : length value ≡ 1 = ap length k.1 in omega arith

elements_few : (q : ℕ) (es : List Element) → AreElements q es → length (meaning es) ≤ length (spelling es)
elements_few q [] h = omega arith
elements_few q (e ∷ es) h =
    let one = element_few q e.bytes e.value h.0 in
    let more = elements_few q es h.1 in
    let m : length (meaning (e ∷ es)) ≡ length e.value + length (meaning es) = length-append e.value (meaning es) in
    let s : length (spelling (e ∷ es)) ≡ length e.bytes + length (spelling es) = length-append e.bytes (spelling es) in
    omega arith

-- the text that double quotes stand for has fewer bytes than they and what stands between them
pub codes_few : (bytes value : List ℕ) → ContentOf Codes bytes value → length value + 2 ≤ length bytes
codes_few bytes value h =
    let few = elements_few 34 h.elements h.each in
    let m : length value ≡ length (meaning h.elements) = ap length h.means in
    let s : length bytes ≡ length (34 ∷ (spelling h.elements ++ 34 ∷ [])) = ap length h.spelled in
    let t = length-append (spelling h.elements) (34 ∷ []) in
    omega arith

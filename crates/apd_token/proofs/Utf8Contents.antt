-- What an item of a text stands for is UTF-8 where the text is.
use Rattle.std.proofs.Common.{◌≡◌, ℕ, ◌+◌, ◌<◌, List, [], ◌∷◌, ◌++◌, length, get_or, take, drop, refl, sym, ◌∙◌, ap, subst, inl, inr, Bool, true, false, ◌==◌, if◌then◌else◌, nat_le, ◌&&◌, ◌||◌, suc, arith, append_assoc, length-append, IsUtf8, IsAscii}
use Rattle.std.specs.Prelude.{encode_utf8}
use Rattle.std.specs.List.{slice_range}
use Rattle.std.proofs.lemmas.List.{take_at, drop_at, get_or_at}
use Rattle.std.proofs.lemmas.List.Folds.{drop_split}
use Rattle.std.proofs.lemmas.Str.{IsUtf8-append, IsUtf8-encode, IsUtf8-from_ascii, IsUtf8-nil, IsUtf8-take, IsUtf8-drop, IsCharBoundary-before_ascii, IsCharBoundary-after_ascii, IsAscii-append, encode_ascii}
use Rattle.std.proofs.lemmas.Str.Ascii.{IsAscii-cons, IsAscii-nil}
use borrow.Author.Tests.{eqb-true}
use Rattle.apd_token.specs.Bytes.{class_of, escape_of, is_simple, simple_code, in_set, is_layout, is_small, is_capital, is_digit, is_graphic, is_bracket, mark_of}
use Rattle.apd_token.specs.Quotes.{AllIn, numeral, IsDigits, EscapeOf, ElementOf, IsElement, Element, AreElements, spelling, meaning}
use Rattle.apd_token.specs.Grammar.{DigitForm, CharOf, CharForm, MarkedForm, QuoteForm, FormOf, HasForm, Stands, IsTokenOf, HasText, ContentOf}
use Rattle.apd_token.specs.declared.bytes.Class.{Class}
use Rattle.apd_token.specs.declared.bytes.Class.TheVariants as classes
use Rattle.apd_token.specs.declared.bytes.Set.{Set}
use Rattle.apd_token.specs.declared.bytes.Set.TheVariants as sets
use Rattle.apd_token.specs.declared.bytes.NumberMark.{NumberMark}
use Rattle.apd_token.specs.declared.bytes.NumberMark.TheVariants as marks
use Rattle.apd_token.specs.declared.bytes.Escape.{Escape}
use Rattle.apd_token.specs.declared.bytes.Escape.TheVariants.{Newline, Octal, Hex, Simple, Unknown}
use Rattle.apd_token.specs.declared.items.TokenKind.{TokenKind}
use Rattle.apd_token.specs.declared.items.TokenKind.TheVariants.{Name, Variable, End, Quoted, Codes, Integer, Open, Close, OpenList, CloseList, OpenCurly, CloseCurly, Comma, Bar}
use Rattle.apd_token.specs.declared.items.Token.{Token}
use Rattle.apd_causes.specs.declared.faults.TokenFault.TheVariants as faults
use Rattle.apd_token.specs.declared.found.Found.{Found}
use Rattle.apd_token.specs.declared.found.Found.TheVariants.{Passed, Item, Bad}
use Rattle.apd_token.proofs.Contents.{closes, in_text}
use Rattle.apd_token.proofs.Quoting.{IsQuote}

-- a text may be cut at an ASCII byte
cut_ascii : (xs : List ℕ) (b : ℕ) (ys : List ℕ) → b < 128 → IsUtf8 (xs ++ b ∷ ys) → IsUtf8 xs × IsUtf8 ys
cut_ascii xs b ys low u =
    let text : List ℕ = xs ++ b ∷ ys in
    let within : length xs < length text = omega (arith, length-append xs (b ∷ ys)) in
    let here : get_or text (length xs) 0 ≡ b = get_or_at xs b ys 0 (length xs) refl in
    let lt : get_or text (length xs) 0 < 128 = omega arith in
    let front : take (length xs) text ≡ xs = take_at xs (b ∷ ys) (length xs) refl in
    let size : length (xs ++ b ∷ []) ≡ length xs + 1 = length-append xs (b ∷ []) in
    let rest : drop (length xs + 1) text ≡ ys = ap (drop (length xs + 1)) (sym (append_assoc xs (b ∷ []) ys)) ∙ drop_at (xs ++ b ∷ []) ys (length xs + 1) size in
    (subst IsUtf8 front (IsUtf8-take text (length xs) u (IsCharBoundary-before_ascii text (length xs) within lt)), subst IsUtf8 rest (IsUtf8-drop text (length xs + 1) u (IsCharBoundary-after_ascii text (length xs) u within lt)))

past_ascii : (bs ys : List ℕ) → IsAscii bs → IsUtf8 (bs ++ ys) → IsUtf8 ys
past_ascii [] ys h u = u
past_ascii (b ∷ bs) ys h u = past_ascii bs ys (λ i. h (suc i)) (cut_ascii [] b (bs ++ ys) (h 0) u).1

-- the sets of ASCII bytes

pub ascii_in : (set : Set) → ((b : ℕ) → in_set set b ≡ true → b < 128) → (bs : List ℕ) → AllIn set bs → IsAscii bs
ascii_in set low [] all = IsAscii-nil
ascii_in set low (b ∷ bs) all = IsAscii-cons b bs (low b all.0) (ascii_in set low bs all.1)

word_low : (b : ℕ) → in_set sets.Word b ≡ true → b < 128
word_low b h = grind arith

graphic_low : (b : ℕ) → in_set sets.Symbols b ≡ true → b < 128
graphic_low b h = grind arith

digit_low : (b : ℕ) → in_set sets.Digits b ≡ true → b < 128
digit_low b h = grind arith

octal_low : (b : ℕ) → in_set sets.Octal b ≡ true → b < 128
octal_low b h = grind arith

hex_low : (b : ℕ) → in_set sets.Hex b ≡ true → b < 128
hex_low b h = grind arith

quote_low : (q : ℕ) → IsQuote q → q < 128
quote_low q (inl e) = omega arith
quote_low q (inr e) = omega arith

one_ascii : (b : ℕ) (bytes : List ℕ) → b < 128 → bytes ≡ b ∷ [] → IsAscii bytes
one_ascii b bytes lt e = subst IsAscii (sym e) (IsAscii-cons b [] lt IsAscii-nil)

-- escapes

escape_chain : (e : ℕ) (a b c d : Bool) → (a ≡ true → e < 128) → (b ≡ true → e < 128) → (c ≡ true → e < 128) → (d ≡ true → e < 128)
    → ((if a then Newline else (if b then Octal else (if c then Hex else (if d then Simple else Unknown)))) ≡ Unknown → ⊥) → e < 128
escape_chain e true b c d la lb lc ld known = la refl
escape_chain e false true c d la lb lc ld known = lb refl
escape_chain e false false true d la lb lc ld known = lc refl
escape_chain e false false false true la lb lc ld known = ld refl
escape_chain e false false false false la lb lc ld known = absurd (known refl)

newline_low : (e : ℕ) → (e == 10) ≡ true → e < 128
newline_low e h = let is = eqb-true e 10 h in omega arith

x_low : (e : ℕ) → (e == 120) ≡ true → e < 128
x_low e h = let is = eqb-true e 120 h in omega arith

letter_low : (e : ℕ) → is_simple e ≡ true → e < 128
letter_low e h = grind arith

known_low : (e : ℕ) → (escape_of e ≡ Unknown → ⊥) → e < 128
known_low e known = escape_chain e (e == 10) (nat_le 48 e && nat_le e 55) (e == 120) (is_simple e) (newline_low e) (octal_low e) (x_low e) (letter_low e) known

simple_chain : (e : ℕ) (a b c d f g h : Bool) → e < 128 → (if a then 7 else (if b then 8 else (if c then 9 else (if d then 10 else (if f then 11 else (if g then 12 else (if h then 13 else e))))))) < 128
simple_chain e true b c d f g h lt = omega arith
simple_chain e false true c d f g h lt = omega arith
simple_chain e false false true d f g h lt = omega arith
simple_chain e false false false true f g h lt = omega arith
simple_chain e false false false false true g h lt = omega arith
simple_chain e false false false false false true h lt = omega arith
simple_chain e false false false false false false true lt = omega arith
simple_chain e false false false false false false false lt = lt

simple_low : (e : ℕ) → e < 128 → simple_code e < 128
simple_low e lt = simple_chain e (e == 97) (e == 98) (e == 116) (e == 110) (e == 118) (e == 102) (e == 114) lt

digits_ascii : (set : Set) → ((b : ℕ) → in_set set b ≡ true → b < 128) → (bytes ds : List ℕ) → IsDigits set bytes ds → IsAscii bytes
digits_ascii set low bytes ds h = subst IsAscii (sym h.spelled) (IsAscii-append ds (92 ∷ []) (ascii_in set low ds h.each) (one_ascii 92 (92 ∷ []) (omega arith) refl))

char_utf8 : (c : ℕ) (value : List ℕ) → c < 128 → value ≡ encode_utf8 c → IsUtf8 value
char_utf8 c value lt e = IsUtf8-from_ascii value (one_ascii c value lt (e ∙ encode_ascii c lt))

escaped : (k : Escape) (e : ℕ) (bytes value : List ℕ) → e < 128 → EscapeOf k e bytes value → IsAscii bytes × IsUtf8 value
escaped Newline e bytes value lt h = (subst IsAscii (sym h.0) IsAscii-nil, subst IsUtf8 (sym h.1) IsUtf8-nil)
escaped Octal e bytes value lt (code, (ds, is, same, scalar), v) = (digits_ascii sets.Octal octal_low bytes ds is, subst IsUtf8 (sym v) (IsUtf8-encode code scalar))
escaped Hex e bytes value lt (code, (ds, is, some, same, scalar), v) = (digits_ascii sets.Hex hex_low bytes ds is, subst IsUtf8 (sym v) (IsUtf8-encode code scalar))
escaped Simple e bytes value lt (code, (none, same), v) =
    (subst IsAscii (sym none) IsAscii-nil, char_utf8 code value (subst (λ n. n < 128) (sym same) (simple_low e lt)) v)
escaped Unknown e bytes value lt h = absurd h

-- an element is one byte for itself, or ASCII
data Written (bytes value : List ℕ) : Type 0 where
  itself : (b : ℕ) → bytes ≡ b ∷ [] → value ≡ b ∷ [] → Written bytes value
  by_ascii : (b : ℕ) (bs : List ℕ) → bytes ≡ b ∷ bs → b < 128 → IsAscii bs → IsUtf8 value → Written bytes value

element_of : (same escape : Bool) (q b : ℕ) (bs value : List ℕ) → IsQuote q → (b == 92) ≡ escape → (b == q) ≡ same → ElementOf escape same q b bs value → Written (b ∷ bs) value
element_of same true q b [] value is e s h = absurd h
element_of same true q b (c ∷ bs) value is e s h =
    let lt = known_low c (λ u. subst (λ (k : Escape). EscapeOf k c bs value) u h) in
    let r = escaped (escape_of c) c bs value lt h in
    by_ascii b (c ∷ bs) refl (let is_escape = eqb-true b 92 e in omega arith) (IsAscii-cons c bs lt r.0) r.1
element_of true false q b bs value is e s h =
    let low = quote_low q is in
    by_ascii b bs refl (let is_quote = eqb-true b q s in omega arith) (one_ascii q bs low h.0) (IsUtf8-from_ascii value (one_ascii q value low h.1))
element_of false false q b bs value is e s h = itself b (ap (λ l. b ∷ l) h.0) h.1

element : (q : ℕ) (bytes value : List ℕ) → IsQuote q → IsElement q bytes value → Written bytes value
element q [] value is h = absurd h
element q (b ∷ bs) value is h = element_of (b == q) (b == 92) q b bs value is refl refl h

-- behind bytes that stand for themselves
meant : (q : ℕ) (es : List Element) (front : List ℕ) → IsQuote q → AreElements q es → IsUtf8 (front ++ spelling es) → IsUtf8 (front ++ meaning es)
meant q [] front is each u = u
meant q (e ∷ es) front is each u = elim (element q e.bytes e.value is each.0) [
  | itself b spelled means ↦
      let u' : IsUtf8 ((front ++ b ∷ []) ++ spelling es) = subst IsUtf8 (ap (λ l. front ++ (l ++ spelling es)) spelled ∙ sym (append_assoc front (b ∷ []) (spelling es))) u in
      subst IsUtf8 (append_assoc front (b ∷ []) (meaning es) ∙ ap (λ l. front ++ (l ++ meaning es)) (sym means)) (meant q es (front ++ b ∷ []) is each.1 u')
  | by_ascii b bs spelled lt ascii value ↦
      let u' : IsUtf8 (front ++ b ∷ (bs ++ spelling es)) = subst IsUtf8 (ap (λ l. front ++ (l ++ spelling es)) spelled) u in
      let cut = cut_ascii front b (bs ++ spelling es) lt u' in
      IsUtf8-append front (e.value ++ meaning es) cut.0 (IsUtf8-append e.value (meaning es) value (meant q es [] is each.1 (past_ascii bs (spelling es) ascii cut.1)))
]

stands_utf8 : (q : ℕ) (front bytes after value : List ℕ) → IsQuote q → Stands q bytes value → IsUtf8 (front ++ (bytes ++ after)) → IsUtf8 value
stands_utf8 q front bytes after value is s u =
    let low = quote_low q is in
    let inside : List ℕ = spelling s.elements in
    let u' : IsUtf8 (front ++ q ∷ ((inside ++ q ∷ []) ++ after)) = subst IsUtf8 (ap (λ l. front ++ (l ++ after)) s.spelled) u in
    let behind : IsUtf8 (inside ++ q ∷ after) = subst IsUtf8 (append_assoc inside (q ∷ []) after) (cut_ascii front q ((inside ++ q ∷ []) ++ after) low u').1 in
    subst IsUtf8 (sym s.means) (meant q s.elements [] is s.each (cut_ascii inside q after low behind).0)

-- a name's or a variable's own bytes are ASCII

abbrev IsWordKind : TokenKind → Type 0
IsWordKind Name = Unit {0}
IsWordKind Variable = Unit {0}
IsWordKind k = ⊥

abbrev IsWord : Found → Type 0
IsWord Passed = ⊥
IsWord (Item k) = IsWordKind k
IsWord (Bad f) = ⊥

no_number : (b : Bool) (at n : ℕ) → IsWord (if b then Item (Integer n) else Bad (faults.NumberTooWide at)) → ⊥
no_number true at n h = h
no_number false at n h = h

no_char_of : (t s : Bool) (at : ℕ) (w : Found) (c : ℕ) (a r : List ℕ) → CharOf t s at w c a r → IsWord w → ⊥
no_char_of true s at w c [] r x h = subst IsWord x.1 h
no_char_of true s at w c (d ∷ a) r x h = subst IsWord x.2 h
no_char_of false true at w c [] r x h = subst IsWord x.1 h
no_char_of false true at w c (d ∷ a) r x h = subst IsWord x.2 h
no_char_of false false at w c a r x h = subst IsWord x.2 h

no_char : (at : ℕ) (w : Found) (a r : List ℕ) → CharForm at w a r → IsWord w → ⊥
no_char at w [] r x h = subst IsWord x.1 h
no_char at w (c ∷ a) r x h = no_char_of (c == 92) (c == 39) at w c a r x h

no_marked : (m : NumberMark) (at : ℕ) (w : Found) (rest after : List ℕ) → MarkedForm m at w rest after → IsWord w → ⊥
no_marked marks.Hex at w rest after x h = no_number _ at (numeral 16 rest) (subst IsWord x.2 h)
no_marked marks.Octal at w rest after x h = no_number _ at (numeral 8 rest) (subst IsWord x.2 h)
no_marked marks.Binary at w rest after x h = no_number _ at (numeral 2 rest) (subst IsWord x.2 h)
no_marked marks.Code at w rest after x h = no_char at w rest after x h
no_marked marks.Nothing at w rest after x h = x

no_quoted : (b : Bool) → IsWordKind (if b then Quoted else Codes) → ⊥
no_quoted true h = h
no_quoted false h = h

no_quote : (at : ℕ) (k : TokenKind) (q : ℕ) (bytes after : List ℕ) → QuoteForm at (Item k) q bytes after → IsWordKind k → ⊥
no_quote at k q bytes after f h = no_quoted (q == 39) (subst IsWordKind (closes at (at + 1 + length (spelling f.elements)) k q f.stop after f.stops).1 h)

class_chain : (n : ℕ) (a b c d e f g h i : Bool) → (a ≡ true → n < 128) → (b ≡ true → n < 128) → (c ≡ true → n < 128) → (d ≡ true → n < 128) → (e ≡ true → n < 128) → (f ≡ true → n < 128) → (g ≡ true → n < 128) → (h ≡ true → n < 128) → (i ≡ true → n < 128)
    → ((if a then classes.Layout else (if b then classes.Small else (if c then classes.Capital else (if d then classes.Digit
    else (if e then classes.Graphic else (if f then classes.Bracket else (if g then classes.Solo else (if h then classes.Percent else (if i then classes.Quote else classes.Other))))))))) ≡ classes.Other → ⊥) → n < 128
class_chain n true b c d e f g h i la lb lc ld le lf lg lh li some = la refl
class_chain n false true c d e f g h i la lb lc ld le lf lg lh li some = lb refl
class_chain n false false true d e f g h i la lb lc ld le lf lg lh li some = lc refl
class_chain n false false false true e f g h i la lb lc ld le lf lg lh li some = ld refl
class_chain n false false false false true f g h i la lb lc ld le lf lg lh li some = le refl
class_chain n false false false false false true g h i la lb lc ld le lf lg lh li some = lf refl
class_chain n false false false false false false true h i la lb lc ld le lf lg lh li some = lg refl
class_chain n false false false false false false false true i la lb lc ld le lf lg lh li some = lh refl
class_chain n false false false false false false false false true la lb lc ld le lf lg lh li some = li refl
class_chain n false false false false false false false false false la lb lc ld le lf lg lh li some = absurd (some refl)

layout_low : (b : ℕ) → is_layout b ≡ true → b < 128
layout_low b h = grind arith

small_low : (b : ℕ) → is_small b ≡ true → b < 128
small_low b h = grind arith

capital_low : (b : ℕ) → is_capital b ≡ true → b < 128
capital_low b h = grind arith

bracket_low : (b : ℕ) → is_bracket b ≡ true → b < 128
bracket_low b h = grind arith

solo_low : (b : ℕ) → (b == 33 || b == 59) ≡ true → b < 128
solo_low b h = grind arith

percent_low : (b : ℕ) → (b == 37) ≡ true → b < 128
percent_low b h = let is = eqb-true b 37 h in omega arith

quote_byte_low : (b : ℕ) → (b == 39 || b == 34) ≡ true → b < 128
quote_byte_low b h = grind arith

low : (b : ℕ) (c : Class) → class_of b ≡ c → (c ≡ classes.Other → ⊥) → b < 128
low b c e other = class_chain b (is_layout b) (is_small b) (is_capital b) (is_digit b) (is_graphic b) (is_bracket b) (b == 33 || b == 59) (b == 37) (b == 39 || b == 34)
    (layout_low b) (small_low b) (capital_low b) (digit_low b) (graphic_low b) (bracket_low b) (solo_low b) (percent_low b) (quote_byte_low b) (λ is. other (sym e ∙ is))

digits_form : (at : ℕ) (k : TokenKind) (bytes : List ℕ) → DigitForm at (Item k) bytes → IsAscii bytes
digits_form at k bytes (inl digits) = ascii_in sets.Digits digit_low bytes digits.0
digits_form at k bytes (inr (float, bad)) = let e = bad in absurd cc

form_ascii : (c : Class) (at : ℕ) (k : TokenKind) (b : ℕ) (bs after : List ℕ) → class_of b ≡ c → FormOf c at (Item k) b bs after → IsWordKind k → IsAscii (b ∷ bs)
form_ascii classes.Layout at k b bs after e f h = absurd (subst IsWord f.0 h)
form_ascii classes.Percent at k b bs after e f h = absurd (subst IsWord f.0 h)
form_ascii classes.Small at k b bs after e f h = IsAscii-cons b bs (low b classes.Small e (λ o. cc)) (ascii_in sets.Word word_low bs f.1)
form_ascii classes.Capital at k b bs after e f h = IsAscii-cons b bs (low b classes.Capital e (λ o. cc)) (ascii_in sets.Word word_low bs f.1)
form_ascii classes.Solo at k b bs after e f h = one_ascii b (b ∷ bs) (low b classes.Solo e (λ o. cc)) (ap (λ l. b ∷ l) f.1)
form_ascii classes.Bracket at k b bs after e f h = one_ascii b (b ∷ bs) (low b classes.Bracket e (λ o. cc)) (ap (λ l. b ∷ l) f.1)
form_ascii classes.Graphic at k b bs after e f h = elim f [
  | inl name ↦ ascii_in sets.Symbols graphic_low (b ∷ bs) name.1.graphic
  | inr stop ↦ one_ascii 46 (b ∷ bs) (omega arith) stop.1.0
]
form_ascii classes.Digit at k b bs after e f h = elim f [
  | inl digits ↦ digits_form at k (b ∷ bs) digits
  | inr marked ↦ absurd (no_marked (mark_of marked.mark) at (Item k) marked.rest after marked.form h)
]
form_ascii classes.Quote at k b bs after e f h = absurd (no_quote at k b bs after f h)
form_ascii classes.Other at k b bs after e f h = absurd (subst IsWord f.0 h)

word_ascii : (at : ℕ) (k : TokenKind) (bytes after : List ℕ) → HasForm at (Item k) bytes after → IsWordKind k → IsAscii bytes
word_ascii at k [] after f h = absurd f
word_ascii at k (b ∷ bs) after f h = form_ascii (class_of b) at k b bs after refl f h

-- what an item stands for

item_utf8 : (at : ℕ) (k : TokenKind) (front bytes after value : List ℕ) → HasText k → HasForm at (Item k) bytes after → ContentOf k bytes value → IsUtf8 (front ++ (bytes ++ after)) → IsUtf8 value
item_utf8 at Name front bytes after value h f c u = subst IsUtf8 (sym c) (IsUtf8-from_ascii bytes (word_ascii at Name bytes after f tt))
item_utf8 at Variable front bytes after value h f c u = subst IsUtf8 (sym c) (IsUtf8-from_ascii bytes (word_ascii at Variable bytes after f tt))
item_utf8 at Quoted front bytes after value h f c u = stands_utf8 39 front bytes after value (inl refl) c u
item_utf8 at Codes front bytes after value h f c u = stands_utf8 34 front bytes after value (inr refl) c u
item_utf8 at (Integer n) front bytes after value h f c u = absurd h
item_utf8 at Open front bytes after value h f c u = absurd h
item_utf8 at Close front bytes after value h f c u = absurd h
item_utf8 at OpenList front bytes after value h f c u = absurd h
item_utf8 at CloseList front bytes after value h f c u = absurd h
item_utf8 at OpenCurly front bytes after value h f c u = absurd h
item_utf8 at CloseCurly front bytes after value h f c u = absurd h
item_utf8 at Comma front bytes after value h f c u = absurd h
item_utf8 at Bar front bytes after value h f c u = absurd h
item_utf8 at End front bytes after value h f c u = absurd h

pub content_utf8 : (text : List ℕ) (t : Token) (value : List ℕ) → IsUtf8 text → IsTokenOf text t → HasText t.kind → ContentOf t.kind (slice_range text t.start t.end) value → IsUtf8 value
content_utf8 text t value u is h c =
    let place = in_text text t is in
    let order = place.order in
    let whole : text ≡ slice_range text 0 t.start ++ (slice_range text t.start t.end ++ drop t.end text) =
    drop_split text 0 t.start (omega arith) ∙ ap (λ l. slice_range text 0 t.start ++ l) (drop_split text t.start t.end (omega arith)) in
    item_utf8 t.start t.kind (slice_range text 0 t.start) (slice_range text t.start t.end) (drop t.end text) value h place.form c (subst IsUtf8 whole u)

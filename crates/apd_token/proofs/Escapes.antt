-- Elements of a quoted item in a text, by what the scanner saw.
use Rattle.std.proofs.Common.{◌≡◌, ℕ, ◌+◌, ◌-◌, ◌<◌, ◌≤◌, List, [], ◌∷◌, ◌++◌, length, get_or, drop, refl, sym, ◌∙◌, ap, subst, ◌⊎◌, inl, inr, Bool, true, false, ◌==◌, if◌then◌else◌, arith, append_assoc}
use borrow.Author.Tests.{eqb-true}
use Rattle.std.specs.Prelude.{encode_utf8}
use Rattle.std.specs.List.{slice_range, flat_map}
use Rattle.std.specs.Char.{IsScalar}
use Rattle.std.proofs.lemmas.List.{drop_all, drop_more, append-nil}
use Rattle.std.proofs.lemmas.List.Folds.{drop_split}
use Rattle.apd_token.specs.Bytes.{class_of, in_set, escape_of}
use Rattle.apd_token.specs.Quotes.{AllIn, numeral, IsDigits, CodeOf, EscapeOf, ElementOf, IsElement, Element, AreElements, spelling, NoElement}
use Rattle.apd_token.specs.Grammar.{NotNext, StopOf, QuoteForm, quoted_kind}
use Rattle.apd_token.specs.Scan.{StopsRun, Scans, HasDigits, NoDigits, HasCode, NoCode, HasElement, InBody}
use Rattle.apd_token.specs.declared.bytes.Set.{Set}
use Rattle.apd_token.specs.declared.bytes.Set.TheVariants as sets
use Rattle.apd_token.specs.declared.bytes.Escape.{Escape}
use Rattle.apd_token.specs.declared.bytes.Escape.TheVariants.{Newline, Octal, Hex, Simple, Unknown}
use Rattle.apd_token.specs.declared.bytes.Class.TheVariants as classes
use Rattle.std.proofs.Math.Utf8.{scalar_cases}
use Rattle.apd_causes.specs.declared.faults.TokenFault.TheVariants as faults
use Rattle.apd_token.specs.declared.found.Found.{Found}
use Rattle.apd_token.specs.declared.found.Found.TheVariants.{Item, Bad}
use Rattle.apd_token.proofs.Slices.{slice_join, slice_first, slice_one, slice_none, slice_more, length-slice, drop_two, scans}
use Rattle.apd_token.proofs.Elements.{run_cut, OneCut}
use Rattle.apd_token.proofs.Quoting.{IsQuote, class_quote, quoted}

-- digits with a backslash behind them are the run of digits
run_digits : (set : Set) (xs : List ℕ) (from upto : ℕ) (bytes digits rest : List ℕ) → in_set set 92 ≡ false → from ≤ upto → AllIn set (slice_range xs from upto) → StopsRun set (drop upto xs)
    → IsDigits set bytes digits → drop from xs ≡ bytes ++ rest → OneCut (slice_range xs from upto) digits (drop upto xs) (92 ∷ rest)
run_digits set xs from upto bytes digits rest stop le all stops is e =
    run_cut set (slice_range xs from upto) digits (drop upto xs) (92 ∷ rest) all is.each stops stop
    (sym (drop_split xs from upto le) ∙ e ∙ ap (λ l. l ++ rest) is.spelled ∙ append_assoc digits (92 ∷ []) rest)

pub no_digits : (set : Set) (xs : List ℕ) (first from upto radix : ℕ) → in_set set 92 ≡ false → first ≤ from → from ≤ upto → AllIn set (slice_range xs from upto) → StopsRun set (drop upto xs)
    → ((rest : List ℕ) → drop upto xs ≡ 92 ∷ rest → IsScalar (numeral radix (slice_range xs first upto)) → ⊥)
    → NoDigits xs first from radix set
no_digits set xs first from upto radix stop order le all stops none bytes digits rest is e scalar =
    let one = run_digits set xs from upto bytes digits rest stop le all stops is e in
    let same : slice_range xs first from ++ digits ≡ slice_range xs first upto = ap (λ l. slice_range xs first from ++ l) (sym one.front) ∙ sym (slice_join xs first from upto order le) in
    none rest one.back (subst (λ (l : List ℕ). IsScalar (numeral radix l)) same scalar)

pub has_digits : (set : Set) (xs : List ℕ) (first from upto radix code : ℕ) → first ≤ from → from ≤ upto → upto < length xs → AllIn set (slice_range xs from upto)
    → get_or xs upto 0 ≡ 92 → code ≡ numeral radix (slice_range xs first upto) → IsScalar code → HasDigits xs first from radix set (upto + 1) code
has_digits set xs first from upto radix code order le lt all back is scalar = record {
  within = omega arith;
  digits = slice_range xs from upto;
  count = (let len : length (slice_range xs from upto) ≡ upto - from = length-slice xs from upto le (omega arith) in let q : upto + 1 ≡ from + length (slice_range xs from upto) + 1 = omega arith in q);
  are = record { spelled = slice_more xs from upto le lt ∙ ap (λ b. slice_range xs from upto ++ b ∷ []) back; each = all };
  value = is ∙ ap (numeral radix) (slice_join xs first from upto order le);
  scalar = scalar;
}

-- the kind of an escape, by its first byte
newline_chain : (a b c d : Bool) → (if a then Newline else (if b then Octal else (if c then Hex else (if d then Simple else Unknown)))) ≡ Newline → a ≡ true
newline_chain true b c d e = refl
newline_chain false true c d e = cc
newline_chain false false true d e = cc
newline_chain false false false true e = cc
newline_chain false false false false e = cc

escape_newline : (e : ℕ) → escape_of e ≡ Newline → e ≡ 10
escape_newline e is = eqb-true e 10 (newline_chain _ _ _ _ is)

code_or_newline : (k : Escape) (e : ℕ) (ds value : List ℕ) → EscapeOf k e ds value → (k ≡ Newline) ⊎ ((code : ℕ) × CodeOf k e ds code)
code_or_newline Newline e ds value h = inl refl
code_or_newline Octal e ds value h = inr (h.0, h.1)
code_or_newline Hex e ds value h = inr (h.0, h.1)
code_or_newline Simple e ds value h = inr (h.0, h.1)
code_or_newline Unknown e ds value h = absurd h

escape_from_code : (k : Escape) (e : ℕ) (ds : List ℕ) (code : ℕ) → CodeOf k e ds code → EscapeOf k e ds (encode_utf8 code)
escape_from_code Newline e ds code h = absurd h
escape_from_code Octal e ds code h = (code, h, refl)
escape_from_code Hex e ds code h = (code, h, refl)
escape_from_code Simple e ds code h = (code, h, refl)
escape_from_code Unknown e ds code h = absurd h

-- a backslash with no escape behind it begins no element
no_escape : (q e : ℕ) (text : List ℕ) → (e ≡ 10 → ⊥) → ((bytes rest : List ℕ) (code : ℕ) → CodeOf (escape_of e) e bytes code → text ≡ bytes ++ rest → ⊥) → NoElement q (92 ∷ e ∷ text)
no_escape q e text no_newline none [] value rest el same = el
no_escape q e text no_newline none (b ∷ []) value rest el same =
    let head : b ≡ 92 = cc in
    subst (λ (n : ℕ). ElementOf (n == 92) (n == q) q n [] value) head el
no_escape q e text no_newline none (b ∷ f ∷ ds) value rest el same =
    let head : b ≡ 92 = cc in
    let second : f ≡ e = cc in
    let tail : text ≡ ds ++ rest = cc in
    let el' : EscapeOf (escape_of f) f ds value = subst (λ (n : ℕ). ElementOf (n == 92) (n == q) q n (f ∷ ds) value) head el in
    let el'' : EscapeOf (escape_of e) e ds value = subst (λ (n : ℕ). EscapeOf (escape_of n) n ds value) second el' in
    elim (code_or_newline (escape_of e) e ds value el'') [
      | inl newline ↦ no_newline (escape_newline e newline)
      | inr coded ↦ none ds rest coded.0 coded.1 tail
    ]

pub no_element_code : (q : ℕ) (xs : List ℕ) (at : ℕ) → at + 1 < length xs → get_or xs at 0 ≡ 92 → (get_or xs (at + 1) 0 ≡ 10 → ⊥) → NoCode xs (at + 1) → NoElement q (drop at xs)
no_element_code q xs at room back no_newline none =
    let n : at + 1 + 1 ≡ at + 2 = omega arith in
    let split : drop at xs ≡ 92 ∷ get_or xs (at + 1) 0 ∷ drop (at + 1 + 1) xs = drop_two xs at room ∙ (λ i. back i ∷ get_or xs (at + 1) 0 ∷ drop (sym n i) xs) in
    subst (NoElement q) (sym split) (no_escape q (get_or xs (at + 1) 0) (drop (at + 1 + 1) xs) no_newline (λ bytes rest code is same. none bytes rest code is same))

pub element_code : (q : ℕ) (xs : List ℕ) (at upto code : ℕ) → get_or xs at 0 ≡ 92 → HasCode xs (at + 1) upto code → HasElement xs at q upto (encode_utf8 code)
element_code q xs at upto code back h =
    let lt = h.beyond in
    let le = h.within in
    let split : slice_range xs at upto ≡ 92 ∷ get_or xs (at + 1) 0 ∷ slice_range xs (at + 1 + 1) upto =
    slice_first xs at upto (omega arith) le ∙ (λ i. back i ∷ slice_first xs (at + 1) upto lt le i) in
    record { beyond = omega arith; within = le; is_element = subst (λ (l : List ℕ). IsElement q l (encode_utf8 code)) (sym split) (escape_from_code _ _ _ code h.is_code) }

pub body_start : (xs : List ℕ) (from q : ℕ) → from ≤ length xs → InBody xs from from q []
body_start xs from q le = record { beyond = omega arith; within = le; elements = []; each = tt; spelled = slice_none xs from; means = refl }

elements_push : (q : ℕ) (es : List Element) (e : Element) → AreElements q es → IsElement q e.bytes e.value → AreElements q (es ++ e ∷ [])
elements_push q [] e all is = (is, tt)
elements_push q (f ∷ es) e all is = (all.0, elements_push q es e all.1 is)

map_push : (f : Element → List ℕ) (es : List Element) (e : Element) → flat_map f (es ++ e ∷ []) ≡ flat_map f es ++ f e
map_push f [] e = append-nil (f e)
map_push f (x ∷ es) e = ap (λ l. f x ++ l) (map_push f es e) ∙ sym (append_assoc (f x) (flat_map f es) (f e))

pub body_more : (xs : List ℕ) (from at q next : ℕ) (out value : List ℕ) → InBody xs from at q out → HasElement xs at q next value → InBody xs from next q (out ++ value)
body_more xs from at q next out value b h =
    let e : Element = record { bytes = slice_range xs at next; value = value } in
    let lt = h.beyond in
    let le = b.beyond in
    record {
      beyond = omega arith;
      within = h.within;
      elements = b.elements ++ e ∷ [];
      each = elements_push q b.elements e b.each h.is_element;
      spelled = slice_join xs from at next b.beyond (omega arith) ∙ ap (λ l. l ++ slice_range xs at next) b.spelled ∙ sym (map_push (λ (x : Element). x.bytes) b.elements e);
      means = ap (λ l. l ++ value) b.means ∙ sym (map_push (λ (x : Element). x.value) b.elements e);
    }

-- a doubled quote is an element
doubled : (q : ℕ) → IsQuote q → (rest : List ℕ) → NoElement q (q ∷ q ∷ rest) → ⊥
doubled q (inl a) rest none = (subst (λ (n : ℕ). NoElement n (n ∷ n ∷ rest) → ⊥) (sym a) (λ k. k (39 ∷ 39 ∷ []) (39 ∷ []) rest (refl, refl) refl)) none
doubled q (inr a) rest none = (subst (λ (n : ℕ). NoElement n (n ∷ n ∷ rest) → ⊥) (sym a) (λ k. k (34 ∷ 34 ∷ []) (34 ∷ []) rest (refl, refl) refl)) none

not_doubled : (q : ℕ) (rest : List ℕ) → IsQuote q → NoElement q (q ∷ rest) → NotNext q rest
not_doubled q [] is none = tt
not_doubled q (b ∷ rest) is none = λ same. doubled q is rest (subst (λ (n : ℕ). NoElement q (q ∷ n ∷ rest)) same none)

-- a byte that is neither a quote nor a backslash is an element
plain_by : (t w : Bool) (q b : ℕ) → t ≡ false → w ≡ false → ElementOf t w q b [] (b ∷ [])
plain_by true w q b h k = absurd cc
plain_by false true q b h k = absurd cc
plain_by false false q b h k = (refl, refl)

backslash_by : (t : Bool) (q b : ℕ) (rest : List ℕ) → (b == 92) ≡ t → (b == q) ≡ false → NoElement q (b ∷ rest) → t ≡ true
backslash_by true q b rest is no_quote none = refl
backslash_by false q b rest is no_quote none = absurd (none (b ∷ []) (b ∷ []) rest (plain_by (b == 92) (b == q) q b is no_quote) refl)

pub backslash : (q b : ℕ) (rest : List ℕ) → (b == q) ≡ false → NoElement q (b ∷ rest) → b ≡ 92
backslash q b rest no_quote none = eqb-true b 92 (backslash_by (b == 92) q b rest refl no_quote none)

-- the three ways in which a quoted item stops
stopped : (xs : List ℕ) (at i upto : ℕ) (w : Found) (out stop : List ℕ) → class_of (get_or xs at 0) ≡ classes.Quote → InBody xs (at + 1) i (get_or xs at 0) out → i ≤ upto → upto ≤ length xs
    → slice_range xs i upto ≡ stop
    → StopOf at i w (get_or xs at 0) stop (drop upto xs) → Scans xs at w upto
stopped xs at i upto w out stop e b le within rest s =
    let q = get_or xs at 0 in
    let from = b.beyond in
    let len : i ≡ at + 1 + length (spelling b.elements) = (let l : length (slice_range xs (at + 1) i) ≡ i - (at + 1) = length-slice xs (at + 1) i from (omega arith) in omega (arith, ap length b.spelled)) in
    let form : QuoteForm at w q (slice_range xs (at + 1) upto) (drop upto xs) = record {
      elements = b.elements;
      stop = stop;
      each = b.each;
      spelled = slice_join xs (at + 1) i upto from le ∙ (λ k. b.spelled k ++ rest k);
      stops = subst (λ (n : ℕ). StopOf at n w q stop (drop upto xs)) len s;
    } in
    scans xs at upto w _ _ (omega arith) within (slice_first xs at upto (omega arith) within) refl (quoted at w q (slice_range xs (at + 1) upto) (drop upto xs) e form)

pub open_quote : (xs : List ℕ) (at i : ℕ) (out : List ℕ) → class_of (get_or xs at 0) ≡ classes.Quote → InBody xs (at + 1) i (get_or xs at 0) out → i ≡ length xs → Scans xs at (Bad (faults.OpenQuote at)) i
open_quote xs at i out e b is = stopped xs at i i (Bad (faults.OpenQuote at)) out [] e b (omega arith) (omega arith) (slice_none xs i) (drop_all i xs (omega arith), refl)

pub close_quote : (xs : List ℕ) (at i : ℕ) (w : Found) (out : List ℕ) → class_of (get_or xs at 0) ≡ classes.Quote → InBody xs (at + 1) i (get_or xs at 0) out → i < length xs → get_or xs i 0 ≡ get_or xs at 0
    → NoElement (get_or xs at 0) (drop i xs) → w ≡ Item (quoted_kind (get_or xs at 0)) → Scans xs at w (i + 1)
close_quote xs at i w out e b lt close none is =
    let q = get_or xs at 0 in
    let split : drop i xs ≡ q ∷ drop (i + 1) xs = drop_more xs i 0 lt ∙ ap (λ n. n ∷ drop (i + 1) xs) close in
    stopped xs at i (i + 1) w out (get_or xs i 0 ∷ []) e b (omega arith) (omega arith) (slice_one xs i lt)
    (refl, inl (close, not_doubled q (drop (i + 1) xs) (class_quote q e) (subst (NoElement q) split none), is))

pub bad_escape : (xs : List ℕ) (at i : ℕ) (out : List ℕ) → class_of (get_or xs at 0) ≡ classes.Quote → InBody xs (at + 1) i (get_or xs at 0) out → i < length xs → (get_or xs i 0 == get_or xs at 0) ≡ false
    → NoElement (get_or xs at 0) (drop i xs) → Scans xs at (Bad (faults.BadEscape i)) (i + 1)
bad_escape xs at i out e b lt other none =
    let q = get_or xs at 0 in
    let none' : NoElement q (get_or xs i 0 ∷ drop (i + 1) xs) = subst (NoElement q) (drop_more xs i 0 lt) none in
    let back : get_or xs i 0 ≡ 92 = backslash q (get_or xs i 0) (drop (i + 1) xs) other none' in
    stopped xs at i (i + 1) (Bad (faults.BadEscape i)) out (get_or xs i 0 ∷ []) e b (omega arith) (omega arith) (slice_one xs i lt)
    (refl, inr (back, subst (λ (n : ℕ). NoElement q (n ∷ drop (i + 1) xs)) back none', refl))

pub wide_no_scalar : (n : ℕ) → 1114111 < n → IsScalar n → ⊥
wide_no_scalar n wide is = elim (scalar_cases n is) [ inl low ↦ omega arith | inr high ↦ let h = high.1 in omega arith ]

pub octal_none : (xs : List ℕ) (at : ℕ) → at < length xs → Octal ≡ escape_of (get_or xs at 0) → NoDigits xs at (at + 1) 8 sets.Octal → NoCode xs at
octal_none xs at lt e none bytes rest code is same =
    let b = get_or xs at 0 in
    let is' : CodeOf Octal b bytes code = subst (λ (k : Escape). CodeOf k b bytes code) (sym e) is in
    none bytes is'.0 rest is'.1 same (subst IsScalar (is'.2 ∙ ap (λ l. numeral 8 (l ++ is'.0)) (sym (slice_one xs at lt))) is'.3)

pub octal_some : (xs : List ℕ) (at upto code : ℕ) → at < length xs → Octal ≡ escape_of (get_or xs at 0) → HasDigits xs at (at + 1) 8 sets.Octal upto code → HasCode xs at upto code
octal_some xs at upto code lt e h =
    let b = get_or xs at 0 in
    let form : CodeOf Octal b (slice_range xs (at + 1) upto) code = (h.digits, h.are, h.value ∙ ap (λ l. numeral 8 (l ++ h.digits)) (slice_one xs at lt), h.scalar) in
    record { beyond = omega (arith, h.count); within = h.within; is_code = subst (λ (k : Escape). CodeOf k b (slice_range xs (at + 1) upto) code) e form }

-- What stands at a place of a text can be found: runs, the end of a comment, escapes and elements.
use Rattle.std.proofs.Common.{◌≡◌, ℕ, ◌+◌, ◌<◌, ◌≤◌, ◌⊎◌, inl, inr, List, [], ◌∷◌, ◌++◌, length, get_or, drop, Bool, true, false, ◌==◌, zero, suc, refl, sym, ◌∙◌, ap, subst, arith}
use borrow.Author.Tests.{ne_eqb}
use Rattle.std.specs.Prelude.{encode_utf8}
use Rattle.std.specs.List.{slice_range}
use Rattle.std.specs.Char.{IsScalar}
use Rattle.std.proofs.Math.Utf8.{scalar}
use Rattle.std.proofs.lemmas.Bool.{cases_lt, cases_eq, cases_Bool, true≢false}
use Rattle.std.proofs.lemmas.List.{drop_all, drop_more}
use Rattle.std.proofs.lemmas.List.Folds.{drop_split}
use Rattle.apd_token.specs.Bytes.{in_set, escape_of, simple_code}
use Rattle.apd_token.specs.Quotes.{AllIn, numeral, CodeOf, ElementOf, IsElement, NoElement}
use Rattle.apd_token.specs.Scan.{StopsRun, NoCloseBelow, IsFirstClose, HasDigits, NoDigits, HasCode, NoCode, HasElement, InBody}
use Rattle.apd_token.specs.declared.bytes.Set.{Set}
use Rattle.apd_token.specs.declared.bytes.Set.TheVariants as sets
use Rattle.apd_token.specs.declared.bytes.Escape.{Escape}
use Rattle.apd_token.specs.declared.bytes.Escape.TheVariants.{Newline, Octal, Hex, Simple, Unknown}
use Rattle.apd_token.proofs.Slices.{slice_none, slice_one, slice_first, drop_two, one_byte}
use Rattle.apd_token.proofs.Escapes.{no_digits, has_digits, octal_none, octal_some, no_element_code, element_code, body_start, body_more}
use Rattle.apd_token.proofs.Quoting.{IsQuote, none_at_close, none_at_end}

-- the run of bytes of a set from a place on
pub record Run (set : Set) (xs : List ℕ) (at : ℕ) : Type 0 where
  pub upto : ℕ
  pub from : at ≤ upto
  pub within : upto ≤ length xs
  pub each : AllIn set (slice_range xs at upto)
  pub stops : StopsRun set (drop upto xs)

run_ends : (set : Set) (xs : List ℕ) (at : ℕ) → at ≤ length xs → StopsRun set (drop at xs) → Run set xs at
run_ends set xs at le stops = record { upto = at; from = omega arith; within = le; each = subst (AllIn set) (sym (slice_none xs at)) tt; stops = stops }

run_longer : (set : Set) (xs : List ℕ) (at : ℕ) → at < length xs → in_set set (get_or xs at 0) ≡ true → Run set xs (at + 1) → Run set xs at
run_longer set xs at lt is r =
    let from = r.from in
    record { upto = r.upto; from = omega arith; within = r.within; each = subst (AllIn set) (sym (slice_first xs at r.upto (omega arith) r.within)) (is, r.each); stops = r.stops }

run_by : (set : Set) (xs : List ℕ) (n at : ℕ) → at ≤ length xs → length xs ≤ n + at → Run set xs at
run_by set xs zero at le short = run_ends set xs at le (subst (StopsRun set) (sym (drop_all at xs (omega arith))) tt)
run_by set xs (suc n) at le short = elim (cases_lt at (length xs)) [
  | inr past ↦ run_ends set xs at le (subst (StopsRun set) (sym (drop_all at xs past)) tt)
  | inl lt ↦ elim (cases_Bool (in_set set (get_or xs at 0))) [
    | inl is ↦ run_longer set xs at lt is (run_by set xs n (at + 1) (omega arith) (omega arith))
    | inr isnt ↦ run_ends set xs at le (subst (StopsRun set) (sym (drop_more xs at 0 lt)) isnt)
  ]
]

pub run_from : (set : Set) (xs : List ℕ) (at : ℕ) → at ≤ length xs → Run set xs at
run_from set xs at le = run_by set xs (length xs) at le (omega arith)

-- a `*/` at a place
abbrev IsClose : List ℕ → ℕ → Type 0
IsClose xs k = (k + 1 < length xs) × (get_or xs k 0 ≡ 42) × (get_or xs (k + 1) 0 ≡ 47)

is_close : (xs : List ℕ) (k : ℕ) → IsClose xs k ⊎ (IsClose xs k → ⊥)
is_close xs k = elim (cases_lt (k + 1) (length xs)) [
  | inr past ↦ inr (λ c. let lt = c.0 in omega arith)
  | inl lt ↦ elim (cases_eq (get_or xs k 0) 42) [
    | inr isnt ↦ inr (λ c. isnt c.1)
    | inl star ↦ elim (cases_eq (get_or xs (k + 1) 0) 47) [ inl slash ↦ inl (lt, star, slash) | inr isnt ↦ inr (λ c. isnt c.2) ]
  ]
]

abbrev Closes : List ℕ → ℕ → Type 0
Closes xs from = ((k : ℕ) × IsFirstClose xs from k) ⊎ NoCloseBelow xs from (length xs)

close_here : (xs : List ℕ) (at : ℕ) → IsClose xs at → Closes xs at
close_here xs at c = inl (at, record { beyond = omega arith; within = c.0; star = c.1; slash = c.2; first = λ k le lt star slash. omega arith })

-- no `*/` stands at the first of the places
none_first : (xs : List ℕ) (at upto : ℕ) → (IsClose xs at → ⊥) → upto ≤ length xs → NoCloseBelow xs (at + 1) upto → NoCloseBelow xs at upto
none_first xs at upto none within later k le lt star slash = elim (cases_eq k at) [
  | inl same ↦ none (omega arith, ap (λ n. get_or xs n 0) (sym same) ∙ star, ap (λ n. get_or xs (n + 1) 0) (sym same) ∙ slash)
  | inr other ↦ later k (omega arith) lt star slash
]

close_later : (xs : List ℕ) (at : ℕ) → (IsClose xs at → ⊥) → Closes xs (at + 1) → Closes xs at
close_later xs at none (inl (k, c)) =
    let beyond = c.beyond in
    let within = c.within in
    inl (k, record { beyond = omega arith; within = c.within; star = c.star; slash = c.slash; first = none_first xs at (k + 1) none (omega arith) c.first })
close_later xs at none (inr later) = inr (none_first xs at (length xs) none (omega arith) later)

closes_by : (xs : List ℕ) (n at : ℕ) → length xs ≤ n + at → Closes xs at
closes_by xs zero at short = inr (λ k le lt star slash. omega arith)
closes_by xs (suc n) at short = elim (is_close xs at) [ inl c ↦ close_here xs at c | inr none ↦ close_later xs at none (closes_by xs n (at + 1) (omega arith)) ]

pub closes_from : (xs : List ℕ) (at : ℕ) → Closes xs at
closes_from xs at = closes_by xs (length xs) at (omega arith)

-- digits with a backslash behind them
digits_from : (set : Set) (xs : List ℕ) (first from radix : ℕ) → in_set set 92 ≡ false → first ≤ from → from ≤ length xs
    → ((upto : ℕ) × (code : ℕ) × HasDigits xs first from radix set upto code) ⊎ NoDigits xs first from radix set
digits_from set xs first from radix stop order le =
    let run = run_from set xs from le in
    let e = run.upto in
    let value = numeral radix (slice_range xs first e) in
    elim (cases_lt e (length xs)) [
      | inr past ↦ inr (no_digits set xs first from e radix stop order run.from run.each run.stops (λ rest same s. let one = one_byte xs e 92 rest same in let lt = one.0 in omega arith))
      | inl lt ↦ elim (cases_eq (get_or xs e 0) 92) [
        | inr isnt ↦ inr (no_digits set xs first from e radix stop order run.from run.each run.stops (λ rest same s. let one = one_byte xs e 92 rest same in isnt one.1))
        | inl back ↦ elim (cases_Bool (scalar value)) [
          | inl s ↦ inl (e + 1, value, has_digits set xs first from e radix value order run.from lt run.each back refl s)
          | inr isnt ↦ inr (no_digits set xs first from e radix stop order run.from run.each run.stops (λ rest same s. true≢false (sym s ∙ isnt)))
        ]
      ]
    ]

abbrev pub CodeAt : List ℕ → ℕ → Type 0
CodeAt xs at = ((upto : ℕ) × (code : ℕ) × HasCode xs at upto code) ⊎ NoCode xs at

no_code_of : (xs : List ℕ) (at : ℕ) (k : Escape) → escape_of (get_or xs at 0) ≡ k → ((bytes rest : List ℕ) (code : ℕ) → CodeOf k (get_or xs at 0) bytes code → drop (at + 1) xs ≡ bytes ++ rest → ⊥) → NoCode xs at
no_code_of xs at k e none bytes rest code is same = none bytes rest code (subst (λ (w : Escape). CodeOf w (get_or xs at 0) bytes code) e is) same

code_simple : (xs : List ℕ) (at : ℕ) → at < length xs → escape_of (get_or xs at 0) ≡ Simple → CodeAt xs at
code_simple xs at lt e =
    let b = get_or xs at 0 in
    inl (
      at + 1,
      simple_code b,
      record {
        beyond = omega arith;
        within = omega arith;
        is_code = subst (λ (w : Escape). CodeOf w b (slice_range xs (at + 1) (at + 1)) (simple_code b)) (sym e) (slice_none xs (at + 1), refl);
      },
    )

code_octal : (xs : List ℕ) (at : ℕ) → at < length xs → escape_of (get_or xs at 0) ≡ Octal → CodeAt xs at
code_octal xs at lt e = elim (digits_from sets.Octal xs at (at + 1) 8 refl (omega arith) (omega arith)) [
  | inl found ↦ inl (found.0, found.1, octal_some xs at found.0 found.1 lt (sym e) found.2)
  | inr none ↦ inr (octal_none xs at lt (sym e) none)
]

code_hex : (xs : List ℕ) (at : ℕ) → at < length xs → escape_of (get_or xs at 0) ≡ Hex → CodeAt xs at
code_hex xs at lt e = elim (digits_from sets.Hex xs (at + 1) (at + 1) 16 refl (omega arith) (omega arith)) [
  | inr none ↦ inr (no_code_of xs at Hex e (λ bytes rest code is same.
      none bytes is.0 rest is.1 same (subst IsScalar (is.3 ∙ ap (λ l. numeral 16 (l ++ is.0)) (sym (slice_none xs (at + 1)))) is.4)))
  | inl found ↦ hex_by found.0 found.1 found.2 found.2.digits refl
]
  where
    value_is : (upto code : ℕ) (h : HasDigits xs (at + 1) (at + 1) 16 sets.Hex upto code) → code ≡ numeral 16 h.digits
    value_is upto code h = h.value ∙ ap (λ l. numeral 16 (l ++ h.digits)) (slice_none xs (at + 1))

    -- where there is no digit a backslash stands there
    no_digit : (upto : ℕ) (bytes ds rest : List ℕ) → drop (at + 1) xs ≡ 92 ∷ drop upto xs → drop (at + 1) xs ≡ bytes ++ rest → bytes ≡ ds ++ 92 ∷ [] → AllIn sets.Hex ds → 0 < length ds → ⊥
    no_digit upto bytes [] rest back same spelled all some = omega arith
    no_digit upto bytes (d ∷ ds) rest back same spelled all some =
        let whole : 92 ∷ drop upto xs ≡ d ∷ ((ds ++ 92 ∷ []) ++ rest) = sym back ∙ same ∙ ap (λ l. l ++ rest) spelled in
        let head : d ≡ 92 = cc in
        true≢false (sym all.0 ∙ ap (in_set sets.Hex) head)

    hex_by : (upto code : ℕ) (h : HasDigits xs (at + 1) (at + 1) 16 sets.Hex upto code) (ds : List ℕ) → h.digits ≡ ds → CodeAt xs at
    hex_by upto code h [] is =
        let count = h.count in
        let none : length h.digits ≡ 0 = ap length is in
        let bytes : slice_range xs (at + 1) upto ≡ 92 ∷ [] = h.are.spelled ∙ ap (λ l. l ++ 92 ∷ []) is in
        let back : drop (at + 1) xs ≡ 92 ∷ drop upto xs = drop_split xs (at + 1) upto (omega arith) ∙ ap (λ l. l ++ drop upto xs) bytes in
        inr (no_code_of xs at Hex e (λ bs rest c k same. no_digit upto bs k.0 rest back same k.1.spelled k.1.each k.2))
    hex_by upto code h (d ∷ ds) is =
        let count = h.count in
        let b = get_or xs at 0 in
        let some : length h.digits ≡ length (d ∷ ds) = ap length is in
        inl (
          upto,
          code,
          record {
            beyond = omega arith;
            within = h.within;
            is_code = subst (λ (w : Escape). CodeOf w b (slice_range xs (at + 1) upto) code) (sym e) (h.digits, h.are, omega arith, value_is upto code h, h.scalar);
          },
        )

pub code_from : (xs : List ℕ) (at : ℕ) → at < length xs → CodeAt xs at
code_from xs at lt = by (escape_of (get_or xs at 0)) refl
  where
    by : (k : Escape) → escape_of (get_or xs at 0) ≡ k → CodeAt xs at
    by Newline e = inr (no_code_of xs at Newline e (λ bytes rest code is same. is))
    by Octal e = code_octal xs at lt e
    by Hex e = code_hex xs at lt e
    by Simple e = code_simple xs at lt e
    by Unknown e = inr (no_code_of xs at Unknown e (λ bytes rest code is same. is))

-- elements between quotes
abbrev pub ElementAt : List ℕ → ℕ → ℕ → Type 0
ElementAt xs at q = ((upto : ℕ) × (value : List ℕ) × HasElement xs at q upto value) ⊎ NoElement q (drop at xs)

lone_backslash : (q : ℕ) → NoElement q (92 ∷ [])
lone_backslash q [] value rest el e = el
lone_backslash q (b ∷ []) value rest el e =
    let head : b ≡ 92 = cc in
    subst (λ (n : ℕ). ElementOf (n == 92) (n == q) q n [] value) head el
lone_backslash q (b ∷ c ∷ bs) value rest el e = cc

element_newline : (xs : List ℕ) (at q : ℕ) → at + 1 < length xs → get_or xs at 0 ≡ 92 → get_or xs (at + 1) 0 ≡ 10 → ElementAt xs at q
element_newline xs at q lt back newline =
    let n : at + 1 + 1 ≡ at + 2 = omega arith in
    let bytes : slice_range xs at (at + 2) ≡ 92 ∷ 10 ∷ [] =
    slice_first xs at (at + 2) (omega arith) (omega arith) ∙ (λ i. back i ∷ slice_first xs (at + 1) (at + 2) (omega arith) (omega arith) i) ∙ (λ i. 92 ∷ newline i ∷ slice_range xs (n i) (at + 2)) ∙ ap (λ l. 92 ∷ 10 ∷ l) (slice_none xs (at + 2)) in
    inl (at + 2, [], record { beyond = omega arith; within = omega arith; is_element = subst (λ (l : List ℕ). IsElement q l []) (sym bytes) (refl, refl) })

element_backslash : (xs : List ℕ) (at q : ℕ) → at < length xs → get_or xs at 0 ≡ 92 → ElementAt xs at q
element_backslash xs at q lt back = elim (cases_lt (at + 1) (length xs)) [
  | inr past ↦ inr (subst (NoElement q) (sym (drop_more xs at 0 lt ∙ (λ i. back i ∷ drop_all (at + 1) xs past i))) (lone_backslash q))
  | inl room ↦ elim (cases_eq (get_or xs (at + 1) 0) 10) [
    | inl newline ↦ element_newline xs at q room back newline
    | inr other ↦ elim (code_from xs (at + 1) room) [
      | inl found ↦ inl (found.0, encode_utf8 found.1, element_code q xs at found.0 found.1 back found.2)
      | inr none ↦ inr (no_element_code q xs at room back other none)
    ]
  ]
]

plain_by : (t w : Bool) (q b : ℕ) → t ≡ false → w ≡ false → ElementOf t w q b [] (b ∷ [])
plain_by true w q b h k = absurd (true≢false h)
plain_by false true q b h k = absurd (true≢false k)
plain_by false false q b h k = (refl, refl)

element_plain : (xs : List ℕ) (at q : ℕ) → at < length xs → (get_or xs at 0 ≡ 92 → ⊥) → (get_or xs at 0 ≡ q → ⊥) → ElementAt xs at q
element_plain xs at q lt no_back no_quote =
    let b = get_or xs at 0 in
    inl (
      at + 1,
      b ∷ [],
      record {
        beyond = omega arith;
        within = omega arith;
        is_element = subst (λ (l : List ℕ). IsElement q l (b ∷ [])) (sym (slice_one xs at lt)) (plain_by (b == 92) (b == q) q b (ne_eqb b 92 no_back) (ne_eqb b q no_quote));
      },
    )

doubled_quote : (q : ℕ) → IsQuote q → IsElement q (q ∷ q ∷ []) (q ∷ [])
doubled_quote q (inl a) = subst (λ (n : ℕ). IsElement n (n ∷ n ∷ []) (n ∷ [])) (sym a) (refl, refl)
doubled_quote q (inr a) = subst (λ (n : ℕ). IsElement n (n ∷ n ∷ []) (n ∷ [])) (sym a) (refl, refl)

element_quote : (xs : List ℕ) (at q : ℕ) → IsQuote q → at < length xs → get_or xs at 0 ≡ q → ElementAt xs at q
element_quote xs at q is lt quote = elim (cases_lt (at + 1) (length xs)) [
  | inr past ↦ inr (subst (NoElement q) (sym (drop_more xs at 0 lt ∙ (λ i. quote i ∷ drop_all (at + 1) xs past i))) (none_at_close q [] is tt))
  | inl room ↦ elim (cases_eq (get_or xs (at + 1) 0) q) [
    | inl again ↦
        let n : at + 1 + 1 ≡ at + 2 = omega arith in
        let bytes : slice_range xs at (at + 2) ≡ q ∷ q ∷ [] =
        slice_first xs at (at + 2) (omega arith) (omega arith) ∙ (λ i. quote i ∷ slice_first xs (at + 1) (at + 2) (omega arith) (omega arith) i) ∙ (λ i. q ∷ again i ∷ slice_range xs (n i) (at + 2)) ∙ ap (λ l. q ∷ q ∷ l) (slice_none xs (at + 2)) in
        inl (at + 2, q ∷ [], record { beyond = omega arith; within = omega arith; is_element = subst (λ (l : List ℕ). IsElement q l (q ∷ [])) (sym bytes) (doubled_quote q is) })
    | inr other ↦
        let rest : drop at xs ≡ q ∷ get_or xs (at + 1) 0 ∷ drop (at + 2) xs = drop_two xs at room ∙ (λ i. quote i ∷ get_or xs (at + 1) 0 ∷ drop (at + 2) xs) in
        inr (subst (NoElement q) (sym rest) (none_at_close q (get_or xs (at + 1) 0 ∷ drop (at + 2) xs) is other))
  ]
]

element_from : (xs : List ℕ) (at q : ℕ) → IsQuote q → at ≤ length xs → ElementAt xs at q
element_from xs at q is le = elim (cases_lt at (length xs)) [
  | inr past ↦ inr (subst (NoElement q) (sym (drop_all at xs past)) (none_at_end q))
  | inl lt ↦ elim (cases_eq (get_or xs at 0) 92) [
    | inl back ↦ element_backslash xs at q lt back
    | inr no_back ↦ elim (cases_eq (get_or xs at 0) q) [ inl quote ↦ element_quote xs at q is lt quote | inr no_quote ↦ element_plain xs at q lt no_back no_quote ]
  ]
]

-- the elements from a place on, up to where none stands
abbrev pub BodyAt : List ℕ → ℕ → ℕ → Type 0
BodyAt xs from q = (upto : ℕ) × (out : List ℕ) × InBody xs from upto q out × NoElement q (drop upto xs)

body_by : (xs : List ℕ) (from q : ℕ) → IsQuote q → (n at : ℕ) (out : List ℕ) → length xs ≤ n + at → InBody xs from at q out → BodyAt xs from q
body_by xs from q is zero at out short b = (at, out, b, subst (NoElement q) (sym (drop_all at xs (omega arith))) (none_at_end q))
body_by xs from q is (suc n) at out short b = elim (element_from xs at q is b.within) [
  | inl found ↦ let beyond = found.2.beyond in body_by xs from q is n found.0 (out ++ found.1) (omega arith) (body_more xs from at q found.0 out found.1 b found.2)
  | inr none ↦ (at, out, b, none)
]

pub body_from : (xs : List ℕ) (from q : ℕ) → IsQuote q → from ≤ length xs → BodyAt xs from q
body_from xs from q is le = body_by xs from q is (length xs) from [] (omega arith) (body_start xs from q le)

-- Every text divides into tokens or has a first fault.
use Rattle.std.proofs.Common.{◌≡◌, ℕ, ◌+◌, ◌-◌, ◌<◌, ◌≤◌, ◌^◌, ◌⊎◌, inl, inr, List, [], ◌∷◌, ◌++◌, length, get_or, take, drop, Bool, true, false, zero, suc, Result, Ok, Err, refl, sym, ◌∙◌, ap, subst, arith, length-append, length-drop}
use borrow.Author.Tests.{eqb-true, ne_eqb}
use Rattle.std.specs.Prelude.{if◌then◌else◌, nat_le, encode_utf8, IsUtf8}
use Rattle.std.specs.List.{slice_range}
use Rattle.std.specs.Str.{IsValidUpTo, is_utf8, encode_utf8_all}
use Rattle.std.proofs.lemmas.Bool.{cases_lt, cases_eq, cases_Bool, true≢false}
use Rattle.std.proofs.lemmas.List.{take_all, take_at}
use Rattle.std.proofs.lemmas.Str.{IsUtf8-from_is_utf8, is_utf8-from_IsUtf8, IsUtf8-nil, IsUtf8-drop, IsCharBoundary-after_ascii, length-encode, len_utf8_bounds}
use Rattle.apd_causes.specs.declared.faults.TokenFault.{TokenFault}
use Rattle.apd_causes.specs.declared.faults.TokenFault.TheVariants as faults
use Rattle.apd_token.specs.Bytes.{class_of, bracket_of, in_set, is_layout, mark_of}
use Rattle.apd_token.specs.Quotes.{numeral}
use Rattle.apd_token.specs.Grammar.{Separates, BeginsComment, IsEnd, number, decimal, quoted_kind, BeginsScript, HasTokens, HasFault, IsFaultOf}
use Rattle.apd_token.specs.Division.{IsDivided}
use Rattle.apd_token.specs.Scan.{StopsRun, Scans, HasFraction, NoMarked, HasRadix, HasChar, HasLead}
use Rattle.apd_token.specs.declared.bytes.Class.{Class}
use Rattle.apd_token.specs.declared.bytes.Class.TheVariants as classes
use Rattle.apd_token.specs.declared.bytes.Set.{Set}
use Rattle.apd_token.specs.declared.bytes.Set.TheVariants as sets
use Rattle.apd_token.specs.declared.bytes.NumberMark.{NumberMark}
use Rattle.apd_token.specs.declared.bytes.NumberMark.TheVariants as marks
use Rattle.apd_token.specs.declared.items.TokenKind.TheVariants.{Name, Variable, Integer, End}
use Rattle.apd_token.specs.declared.items.Token.{Token}
use Rattle.apd_token.specs.declared.found.Found.{Found}
use Rattle.apd_token.specs.declared.found.Found.TheVariants.{Passed, Item, Bad}
use Rattle.apd_token.proofs.Slices.{slice_one, length-slice, drop_two, two_bytes}
use Rattle.apd_token.proofs.Escapes.{open_quote, close_quote, bad_escape}
use Rattle.apd_token.proofs.Quoting.{class_quote}
use Rattle.apd_token.proofs.Pieces.{run_scans, alone_scans, comment_scans, open_scans, graphic_scans, integer_scans, float_scans, comment_front, end_bytes, no_mark_zero, no_mark_end, no_mark, no_radix, radix_scans, char_scans, char_open, no_code_end, no_code_here, not_next, coded_bad_escape, coded_escape, coded_single, coded_double, coded_plain}
use Rattle.apd_token.proofs.Reading.{ReadTo, start, passed, item, finish, fault, no_script, script, is_fault}
use Rattle.apd_token.proofs.Seeking.{run_from, closes_from, code_from, body_from}

-- what is found isn't want of memory
abbrev IsTold : Found → Type 0
IsTold Passed = Unit {0}
IsTold (Item k) = Unit {0}
IsTold (Bad f) = f ≡ faults.Memory → ⊥

-- the piece at a place
abbrev PieceAt : List ℕ → ℕ → Type 0
PieceAt xs at = (w : Found) × (upto : ℕ) × Scans xs at w upto × IsTold w

number_told : (at n : ℕ) → IsTold (number at n)
number_told at n = by (nat_le n (2 ^ 63))
  where
    by : (b : Bool) → IsTold (if b then Item (Integer n) else Bad (faults.NumberTooWide at))
    by true = tt
    by false = λ e. cc

-- numbers
fraction_at : (xs : List ℕ) (at : ℕ) → HasFraction xs at ⊎ (HasFraction xs at → ⊥)
fraction_at xs at = elim (cases_lt (at + 1) (length xs)) [
  | inr past ↦ inr (λ f. let room = f.room in omega arith)
  | inl room ↦ elim (cases_eq (get_or xs at 0) 46) [
    | inr isnt ↦ inr (λ f. isnt f.point)
    | inl point ↦ elim (cases_Bool (in_set sets.Digits (get_or xs (at + 1) 0))) [
      | inl digit ↦ inl (record { room = room; point = point; digit = digit })
      | inr isnt ↦ inr (λ f. true≢false (sym f.digit ∙ isnt))
    ]
  ]
]

digits_at : (xs : List ℕ) (at : ℕ) → at < length xs → class_of (get_or xs at 0) ≡ classes.Digit → NoMarked at (drop at xs) → PieceAt xs at
digits_at xs at lt e unmarked =
    let run = run_from sets.Digits xs (at + 1) (omega arith) in
    let upto = run.upto in
    let from = run.from in
    let n = decimal (slice_range xs at upto) in
    let more : at < upto = omega arith in
    elim (cases_lt (2 ^ 63) n) [
      | inl wide ↦ (number at n, upto, integer_scans xs at upto (number at n) more run.within e run.each run.stops unmarked (λ narrow f. omega arith) refl, number_told at n)
      | inr narrow ↦ elim (fraction_at xs upto) [
        | inl f ↦ (Bad (faults.FloatLiteral at), upto + 2, float_scans xs at upto more run.within e run.each unmarked narrow f, λ same. cc)
        | inr isnt ↦ (number at n, upto, integer_scans xs at upto (number at n) more run.within e run.each run.stops unmarked (λ le f. isnt f) refl, number_told at n)
      ]
    ]

abbrev RadixAt : List ℕ → ℕ → ℕ → Set → Type 0
RadixAt xs at radix set = ((w : Found) × (upto : ℕ) × HasRadix xs at radix set w upto × IsTold w) ⊎ StopsRun set (drop (at + 2) xs)

radix_at : (xs : List ℕ) (at radix : ℕ) (set : Set) → at + 2 ≤ length xs → RadixAt xs at radix set
radix_at xs at radix set le =
    let run = run_from set xs (at + 2) le in
    let upto = run.upto in
    let from = run.from in
    let n = numeral radix (slice_range xs (at + 2) upto) in
    let size : length (slice_range xs (at + 2) upto) ≡ upto - (at + 2) = length-slice xs (at + 2) upto from run.within in
    elim (cases_lt (at + 2) upto) [
      | inl some ↦ inl (number at n, upto, record { beyond = some; within = run.within; form = (omega arith, run.each, refl); stops = run.stops }, number_told at n)
      | inr none ↦ inr (subst (λ (k : ℕ). StopsRun set (drop k xs)) (let same : upto ≡ at + 2 = omega arith in same) run.stops)
    ]

-- the character that begins the rest of a text
abbrev CharAt : List ℕ → ℕ → Type 0
CharAt xs at = (c : ℕ) × (upto : ℕ) × HasChar xs at c upto

char_by : (xs : List ℕ) (at : ℕ) → at < length xs → (cs : List ℕ) → encode_utf8_all cs ≡ drop at xs → CharAt xs at
char_by xs at lt [] e = let size : length (drop at xs) ≡ 0 = ap length (sym e) in let d = length-drop at xs in absurd (omega arith)
char_by xs at lt (c ∷ cs) e =
    let bytes = encode_utf8 c in
    let upto = at + length bytes in
    let n : upto - at ≡ length bytes = omega arith in
    let some : 1 ≤ length bytes = let l = length-encode c in let b = len_utf8_bounds c in let one = b.0 in omega arith in
    let size : length (drop at xs) ≡ length bytes + length (encode_utf8_all cs) = ap length (sym e) ∙ length-append bytes (encode_utf8_all cs) in
    let d = length-drop at xs in (
      c,
      upto,
      record {
        beyond = omega arith;
        within = omega arith;
        spelled = (λ i. take (n i) (sym e i)) ∙ take_at bytes (encode_utf8_all cs) (length bytes) refl;
      },
    )

char_at : (xs : List ℕ) (at : ℕ) → at < length xs → IsUtf8 (drop at xs) → CharAt xs at
char_at xs at lt u = char_by xs at lt u.0 u.1.1

-- behind `0'`
bad_at : (xs : List ℕ) (at : ℕ) → Scans xs at (Bad (faults.BadEscape (at + 2))) (at + 3) → PieceAt xs at
bad_at xs at s = (Bad (faults.BadEscape (at + 2)), at + 3, s, λ e. cc)

module _ (xs : List ℕ) (at : ℕ) (zero_is : get_or xs at 0 ≡ 48) (quote_is : get_or xs (at + 1) 0 ≡ 39) where
  coded_backslash : at + 2 < length xs → get_or xs (at + 2) 0 ≡ 92 → PieceAt xs at
  coded_backslash lt back = elim (cases_lt (at + 3) (length xs)) [
    | inr past ↦ bad_at xs at (coded_bad_escape xs at zero_is quote_is (omega arith) back (no_code_end xs (at + 3) past))
    | inl room ↦ elim (code_from xs (at + 3) room) [
      | inl found ↦ (Item (Integer found.1), found.0, coded_escape xs at found.0 found.1 zero_is quote_is back found.2, tt)
      | inr none ↦ bad_at xs at (coded_bad_escape xs at zero_is quote_is (omega arith) back (no_code_here xs (at + 3) room none))
    ]
  ]

  coded_quote : at + 2 < length xs → get_or xs (at + 2) 0 ≡ 39 → PieceAt xs at
  coded_quote lt same = elim (cases_lt (at + 3) (length xs)) [
    | inr past ↦ bad_at xs at (coded_single xs at zero_is quote_is (omega arith) same (not_next 39 xs (at + 3) (λ room e. omega arith)))
    | inl room ↦ elim (cases_eq (get_or xs (at + 3) 0) 39) [
      | inl again ↦ (Item (Integer 39), at + 4, coded_double xs at zero_is quote_is (omega arith) same again, tt)
      | inr other ↦ bad_at xs at (coded_single xs at zero_is quote_is (omega arith) same (not_next 39 xs (at + 3) (λ r e. other e)))
    ]
  ]

  coded_char : at + 2 < length xs → IsUtf8 xs → (get_or xs (at + 2) 0 ≡ 92 → ⊥) → (get_or xs (at + 2) 0 ≡ 39 → ⊥) → PieceAt xs at
  coded_char lt utf8 no_back no_quote =
      let n : at + 1 + 1 ≡ at + 2 = omega arith in
      let rest : IsUtf8 (drop (at + 2) xs) = subst (λ (k : ℕ). IsUtf8 (drop k xs)) n (IsUtf8-drop xs (at + 1 + 1) utf8 (IsCharBoundary-after_ascii xs (at + 1) utf8 (omega arith) (omega (arith, quote_is)))) in
      let c = char_at xs (at + 2) lt rest in
      (Item (Integer c.0), c.1, coded_plain xs at c.1 c.0 zero_is quote_is no_back no_quote c.2, tt)

  coded_at : at + 1 < length xs → IsUtf8 xs → PieceAt xs at
  coded_at room utf8 = elim (cases_eq (length xs) (at + 2)) [
    | inl ends ↦ (Bad (faults.OpenQuote at), at + 2, char_scans xs at (at + 2) (Bad (faults.OpenQuote at)) zero_is quote_is (omega arith) (omega arith) (char_open xs at ends), λ e. cc)
    | inr more ↦ elim (cases_eq (get_or xs (at + 2) 0) 92) [
      | inl back ↦ coded_backslash (omega arith) back
      | inr no_back ↦ elim (cases_eq (get_or xs (at + 2) 0) 39) [ inl same ↦ coded_quote (omega arith) same | inr no_quote ↦ coded_char (omega arith) utf8 no_back no_quote ]
    ]
  ]

code_chain : (a b c d : Bool) → (if a then marks.Hex else (if b then marks.Octal else (if c then marks.Binary else (if d then marks.Code else marks.Nothing)))) ≡ marks.Code → d ≡ true
code_chain true b c d e = cc
code_chain false true c d e = cc
code_chain false false true d e = cc
code_chain false false false true e = refl
code_chain false false false false e = cc

mark_code : (b : ℕ) → mark_of b ≡ marks.Code → b ≡ 39
mark_code b e = eqb-true b 39 (code_chain _ _ _ _ e)

abbrev MarkedAt : List ℕ → ℕ → Type 0
MarkedAt xs at = PieceAt xs at ⊎ NoMarked at (drop at xs)

marked_by : (xs : List ℕ) (at : ℕ) (k : NumberMark) → at + 1 < length xs → IsUtf8 xs → get_or xs at 0 ≡ 48 → mark_of (get_or xs (at + 1) 0) ≡ k → MarkedAt xs at
marked_by xs at marks.Nothing room utf8 zero_is e = inr (no_mark xs at marks.Nothing (sym e) (λ v bytes rest s f. f))
marked_by xs at marks.Code room utf8 zero_is e = inl (coded_at xs at zero_is (mark_code (get_or xs (at + 1) 0) e) room utf8)
marked_by xs at marks.Hex room utf8 zero_is e = elim (radix_at xs at 16 sets.Hex (omega arith)) [
  | inl r ↦ inl (r.0, r.1, radix_scans marks.Hex 16 sets.Hex xs at r.1 r.0 zero_is (sym e) r.2 (λ f. f) (λ v cs rest f. f.1), r.3)
  | inr none ↦ inr (no_mark xs at marks.Hex (sym e) (λ v bytes rest s f. no_radix sets.Hex 16 at (drop (at + 2) xs) none v bytes rest s f))
]
marked_by xs at marks.Octal room utf8 zero_is e = elim (radix_at xs at 8 sets.Octal (omega arith)) [
  | inl r ↦ inl (r.0, r.1, radix_scans marks.Octal 8 sets.Octal xs at r.1 r.0 zero_is (sym e) r.2 (λ f. f) (λ v cs rest f. f.1), r.3)
  | inr none ↦ inr (no_mark xs at marks.Octal (sym e) (λ v bytes rest s f. no_radix sets.Octal 8 at (drop (at + 2) xs) none v bytes rest s f))
]
marked_by xs at marks.Binary room utf8 zero_is e = elim (radix_at xs at 2 sets.Binary (omega arith)) [
  | inl r ↦ inl (r.0, r.1, radix_scans marks.Binary 2 sets.Binary xs at r.1 r.0 zero_is (sym e) r.2 (λ f. f) (λ v cs rest f. f.1), r.3)
  | inr none ↦ inr (no_mark xs at marks.Binary (sym e) (λ v bytes rest s f. no_radix sets.Binary 2 at (drop (at + 2) xs) none v bytes rest s f))
]

marked_at : (xs : List ℕ) (at : ℕ) → IsUtf8 xs → MarkedAt xs at
marked_at xs at utf8 = elim (cases_eq (get_or xs at 0) 48) [
  | inr other ↦ inr (no_mark_zero xs at other)
  | inl zero_is ↦ elim (cases_lt (at + 1) (length xs)) [
    | inr past ↦ inr (no_mark_end xs at past)
    | inl room ↦ marked_by xs at (mark_of (get_or xs (at + 1) 0)) room utf8 zero_is refl
  ]
]

number_at : (xs : List ℕ) (at : ℕ) → at < length xs → IsUtf8 xs → class_of (get_or xs at 0) ≡ classes.Digit → PieceAt xs at
number_at xs at lt utf8 e = elim (marked_at xs at utf8) [ inl found ↦ found | inr none ↦ digits_at xs at lt e none ]

-- comments and graphic names
comment_at : (xs : List ℕ) (at : ℕ) → ((at + 1 < length xs) × BeginsComment (drop at xs)) ⊎ (BeginsComment (drop at xs) → ⊥)
comment_at xs at = elim (cases_lt (at + 1) (length xs)) [
  | inr past ↦ inr (λ begun. let two = two_bytes xs at 47 42 begun.0 begun.1 in let room = two.0 in omega arith)
  | inl room ↦ elim (cases_eq (get_or xs at 0) 47) [
    | inr isnt ↦ inr (λ begun. let two = two_bytes xs at 47 42 begun.0 begun.1 in isnt two.1)
    | inl slash ↦ elim (cases_eq (get_or xs (at + 1) 0) 42) [
      | inr isnt ↦ inr (λ begun. let two = two_bytes xs at 47 42 begun.0 begun.1 in isnt two.2)
      | inl star ↦ inl (room, (drop (at + 2) xs, drop_two xs at room ∙ (λ i. slash i ∷ star i ∷ drop (at + 2) xs)))
    ]
  ]
]

separates : (after : List ℕ) → Separates after ⊎ (Separates after → ⊥)
separates [] = inl tt
separates (b ∷ bs) = elim (cases_Bool (is_layout b)) [
  | inl layout ↦ inl (inl layout)
  | inr isnt ↦ elim (cases_eq b 37) [ inl percent ↦ inl (inr percent) | inr other ↦ inr (λ s. elim s [ inl layout ↦ true≢false (sym layout ∙ isnt) | inr percent ↦ other percent ]) ]
]

end_at : (xs : List ℕ) (at upto : ℕ) → at < upto → upto ≤ length xs → IsEnd (slice_range xs at upto) (drop upto xs) ⊎ (IsEnd (slice_range xs at upto) (drop upto xs) → ⊥)
end_at xs at upto lt within = elim (cases_eq upto (at + 1)) [
  | inr longer ↦ inr (λ is. longer (end_bytes xs at upto lt within is).0)
  | inl one ↦ elim (cases_eq (get_or xs at 0) 46) [
    | inr isnt ↦ inr (λ is. isnt (end_bytes xs at upto lt within is).1)
    | inl stop ↦ elim (separates (drop upto xs)) [
      | inl after ↦ inl (ap (slice_range xs at) one ∙ slice_one xs at (omega arith) ∙ ap (λ b. b ∷ []) stop, after)
      | inr isnt ↦ inr (λ is. isnt is.1)
    ]
  ]
]

name_or_end : (xs : List ℕ) (at : ℕ) → at < length xs → class_of (get_or xs at 0) ≡ classes.Graphic → (BeginsComment (drop at xs) → ⊥) → PieceAt xs at
name_or_end xs at lt e none =
    let run = run_from sets.Symbols xs (at + 1) (omega arith) in
    let upto = run.upto in
    let from = run.from in
    let more : at < upto = omega arith in
    elim (end_at xs at upto more run.within) [
      | inl is ↦ (Item End, upto, graphic_scans xs at upto End more run.within e (λ all. inr (refl, is)) run.each run.stops none, tt)
      | inr isnt ↦ (
        Item Name,
        upto,
        graphic_scans xs at upto Name more run.within e (λ all. inl (refl, record { graphic = all; no_comment = λ begun. none (comment_front xs at upto (omega arith) begun); no_end = isnt })) run.each run.stops none,
        tt,
      )
    ]

graphic_at : (xs : List ℕ) (at : ℕ) → at < length xs → class_of (get_or xs at 0) ≡ classes.Graphic → PieceAt xs at
graphic_at xs at lt e = elim (comment_at xs at) [
  | inr none ↦ name_or_end xs at lt e none
  | inl begun ↦ elim (closes_from xs (at + 2)) [
    | inl close ↦ (Passed, close.0 + 2, comment_scans xs at close.0 begun.1 close.1, tt)
    | inr isnt ↦ (Bad (faults.OpenComment at), length xs, open_scans xs at begun.1 begun.0 isnt, λ same. cc)
  ]
]

-- quoted items
quoted_at : (xs : List ℕ) (at : ℕ) → at < length xs → class_of (get_or xs at 0) ≡ classes.Quote → PieceAt xs at
quoted_at xs at lt e =
    let q = get_or xs at 0 in
    let body = body_from xs (at + 1) q (class_quote q e) (omega arith) in
    let i = body.0 in
    let within = body.2.within in
    elim (cases_lt i (length xs)) [
      | inr past ↦ (Bad (faults.OpenQuote at), i, open_quote xs at i body.1 e body.2 (omega arith), λ same. cc)
      | inl more ↦ elim (cases_eq (get_or xs i 0) q) [
        | inl close ↦ (Item (quoted_kind q), i + 1, close_quote xs at i (Item (quoted_kind q)) body.1 e body.2 more close body.3 refl, tt)
        | inr other ↦ (Bad (faults.BadEscape i), i + 1, bad_escape xs at i body.1 e body.2 more (ne_eqb (get_or xs i 0) q other) body.3, λ same. cc)
      ]
    ]

piece_by : (xs : List ℕ) (at : ℕ) (cls : Class) → at < length xs → IsUtf8 xs → class_of (get_or xs at 0) ≡ cls → PieceAt xs at
piece_by xs at classes.Layout lt utf8 e = (Passed, at + 1, alone_scans classes.Layout xs at Passed lt e (refl, refl) (λ v cs rest f. f.1), tt)
piece_by xs at classes.Percent lt utf8 e =
    let run = run_from sets.Line xs (at + 1) (omega arith) in
    let from = run.from in
    (Passed, run.upto, run_scans classes.Percent sets.Line xs at run.upto Passed (omega arith) run.within e (refl, run.each) (λ v cs rest f. f.1) run.stops, tt)
piece_by xs at classes.Small lt utf8 e =
    let run = run_from sets.Word xs (at + 1) (omega arith) in
    let from = run.from in
    (Item Name, run.upto, run_scans classes.Small sets.Word xs at run.upto (Item Name) (omega arith) run.within e (refl, run.each) (λ v cs rest f. f.1) run.stops, tt)
piece_by xs at classes.Capital lt utf8 e =
    let run = run_from sets.Word xs (at + 1) (omega arith) in
    let from = run.from in
    (Item Variable, run.upto, run_scans classes.Capital sets.Word xs at run.upto (Item Variable) (omega arith) run.within e (refl, run.each) (λ v cs rest f. f.1) run.stops, tt)
piece_by xs at classes.Solo lt utf8 e = (Item Name, at + 1, alone_scans classes.Solo xs at (Item Name) lt e (refl, refl) (λ v cs rest f. f.1), tt)
piece_by xs at classes.Bracket lt utf8 e =
    (Item (bracket_of (get_or xs at 0)), at + 1, alone_scans classes.Bracket xs at (Item (bracket_of (get_or xs at 0))) lt e (refl, refl) (λ v cs rest f. f.1), tt)
piece_by xs at classes.Graphic lt utf8 e = graphic_at xs at lt e
piece_by xs at classes.Digit lt utf8 e = number_at xs at lt utf8 e
piece_by xs at classes.Quote lt utf8 e = quoted_at xs at lt e
piece_by xs at classes.Other lt utf8 e = (Bad (faults.BadChar at), at + 1, alone_scans classes.Other xs at (Bad (faults.BadChar at)) lt e (refl, refl) (λ v cs rest f. f.1), λ same. cc)

piece_at : (xs : List ℕ) (at : ℕ) → at < length xs → IsUtf8 xs → PieceAt xs at
piece_at xs at lt utf8 = piece_by xs at (class_of (get_or xs at 0)) lt utf8 refl

-- what is passed over at the beginning
script_or_none : (xs : List ℕ) → ((1 < length xs) × (get_or xs 0 0 ≡ 35) × (get_or xs 1 0 ≡ 33)) ⊎ (BeginsScript xs → ⊥)
script_or_none xs = elim (cases_lt 1 (length xs)) [
  | inr past ↦ inr (λ begun. let two = two_bytes xs 0 35 33 begun.0 begun.1 in let room = two.0 in omega arith)
  | inl room ↦ elim (cases_eq (get_or xs 0 0) 35) [
    | inr isnt ↦ inr (λ begun. let two = two_bytes xs 0 35 33 begun.0 begun.1 in isnt two.1)
    | inl hash ↦ elim (cases_eq (get_or xs 1 0) 33) [ inr isnt ↦ inr (λ begun. let two = two_bytes xs 0 35 33 begun.0 begun.1 in isnt two.2) | inl bang ↦ inl (room, hash, bang) ]
  ]
]

lead_of : (xs : List ℕ) → (upto : ℕ) × HasLead xs upto
lead_of xs = elim (script_or_none xs) [
  | inr none ↦ (0, no_script xs none)
  | inl begun ↦ let run = run_from sets.Line xs 2 begun.0 in (run.upto, script xs run.upto run.from run.within begun.1 begun.2 run.each run.stops)
]

-- the pieces one after another
abbrev Answer : List ℕ → Type 0
Answer text = ((ts : List Token) × HasTokens text ts) ⊎ ((f : TokenFault) × HasFault text f × (f ≡ faults.Memory → ⊥))

then_piece : (text : List ℕ) (ts : List Token) (at upto : ℕ) (spaced : Bool) (w : Found) → ReadTo text ts at spaced → Scans text at w upto → IsTold w
    → ((us : List Token) (after : Bool) → ReadTo text us upto after → Answer text) → Answer text
then_piece text ts at upto spaced Passed r s told go = go ts true (passed text ts at upto spaced r s)
then_piece text ts at upto spaced (Item k) r s told go = go (ts ++ record { kind = k; start = at; «end» = upto; spaced = spaced } ∷ []) false (item text ts at upto spaced k r s)
then_piece text ts at upto spaced (Bad f) r s told go = inr (f, fault text ts at upto spaced f r s, told)

pieces_by : (text : List ℕ) → IsUtf8 text → (n : ℕ) (ts : List Token) (at : ℕ) (spaced : Bool) → length text ≤ n + at → ReadTo text ts at spaced → Answer text
pieces_by text utf8 zero ts at spaced short r = inl (ts, finish text ts at spaced r (omega arith))
pieces_by text utf8 (suc n) ts at spaced short r = elim (cases_lt at (length text)) [
  | inr past ↦ inl (ts, finish text ts at spaced r past)
  | inl lt ↦
      let p = piece_at text at lt utf8 in
      let beyond = p.2.beyond in
      then_piece text ts at p.1 spaced p.0 r p.2 p.3 (λ us after more. pieces_by text utf8 n us p.1 after (omega arith) more)
]

divided : (text : List ℕ) → IsUtf8 text → Answer text
divided text utf8 = let lead = lead_of text in pieces_by text utf8 (length text) [] lead.0 true (omega arith) (start text lead.0 lead.1)

-- how far a text is UTF-8
valid_by : (text : List ℕ) (k : ℕ) → k ≤ length text → ((m : ℕ) → k ≤ m → IsUtf8 (take m text) → ⊥) → (n : ℕ) × IsValidUpTo text n
valid_by text zero le none = absurd (none 0 (omega arith) IsUtf8-nil)
valid_by text (suc k) le none = elim (cases_Bool (is_utf8 (take k text))) [
  | inl holds ↦ (k, record { short = omega arith; front = IsUtf8-from_is_utf8 (take k text) holds; longest = λ m lt u. none m (omega arith) u })
  | inr isnt ↦ valid_by text k (omega arith) (λ m more u. elim (cases_eq m k) [
    | inl same ↦ true≢false (sym (is_utf8-from_IsUtf8 (take k text) (subst (λ (j : ℕ). IsUtf8 (take j text)) same u)) ∙ isnt)
    | inr other ↦ none m (omega arith) u
  ])
]

valid_up_to : (text : List ℕ) → (IsUtf8 text → ⊥) → (n : ℕ) × IsValidUpTo text n
valid_up_to text none = valid_by text (length text) (omega arith) (λ m le u. none (subst IsUtf8 (take_all m text le) u))

pub is_divided : (text : List ℕ) (f : TokenFault) → (f ≡ faults.Memory → ⊥) → IsFaultOf text f → IsDivided text (Err f)
is_divided text (faults.NotUtf8 n) m h = h
is_divided text (faults.BadChar n) m h = h
is_divided text (faults.OpenQuote n) m h = h
is_divided text (faults.OpenComment n) m h = h
is_divided text (faults.BadEscape n) m h = h
is_divided text (faults.NumberTooWide n) m h = h
is_divided text (faults.FloatLiteral n) m h = h
is_divided text faults.Memory m h = absurd (m refl)

abbrev Division : List ℕ → Type 0
Division text = (a : Result (List Token) TokenFault) × IsDivided text a

answer_divides : (text : List ℕ) → IsUtf8 text → Answer text → Division text
answer_divides text utf8 (inl (ts, h)) = (Ok ts, (utf8, h))
answer_divides text utf8 (inr (f, h, m)) = (Err f, is_divided text f m (is_fault text f utf8 h))

not_characters : (text : List ℕ) → ((n : ℕ) × IsValidUpTo text n) → Division text
not_characters text (n, v) = (Err (faults.NotUtf8 n), v)

pub every_text : (text : List ℕ) → (a : Result (List Token) TokenFault) × IsDivided text a
every_text text = elim (cases_Bool (is_utf8 text)) [
  | inl holds ↦ let utf8 = IsUtf8-from_is_utf8 text holds in answer_divides text utf8 (divided text utf8)
  | inr isnt ↦ not_characters text (valid_up_to text (λ u. true≢false (sym (is_utf8-from_IsUtf8 text u) ∙ isnt)))
]

-- Pieces of a text, by what the scanner saw.
use Rattle.std.proofs.Common.{◌≡◌, ℕ, ◌+◌, ◌-◌, ◌<◌, ◌≤◌, ◌^◌, List, [], ◌∷◌, ◌++◌, length, get_or, drop, refl, sym, ◌∙◌, ap, subst, Bool, true, false, ◌==◌, arith, append_assoc, le-leb}
use borrow.Author.Tests.{ne_eqb}
use Rattle.std.specs.Prelude.{nat_le, encode_utf8}
use Rattle.std.specs.List.{slice_range}
use Rattle.std.proofs.lemmas.List.{drop_all, drop_more}
use Rattle.std.proofs.lemmas.List.Folds.{drop_split}
use Rattle.apd_token.specs.Bytes.{class_of, in_set, mark_of, escape_of}
use Rattle.apd_token.specs.Quotes.{AllIn, CodeOf}
use Rattle.apd_token.specs.Grammar.{MarkedForm, RadixForm, CharForm, CharOf, NoCodeIn, NotNext, HasNoClose, BeginsComment, IsEnd, GraphicForm, FormOf, decimal, number}
use Rattle.apd_token.specs.Scan.{StopsRun, NoCloseBelow, IsFirstClose, Scans, HasFraction, NoMarked, HasRadix, HasChar, HasCode, NoCode}
use Rattle.apd_token.specs.declared.bytes.Set.{Set}
use Rattle.apd_token.specs.declared.bytes.Set.TheVariants as sets
use Rattle.apd_token.specs.declared.bytes.NumberMark.{NumberMark}
use Rattle.apd_token.specs.declared.bytes.Class.{Class}
use Rattle.apd_token.specs.declared.bytes.Class.TheVariants as classes
use Rattle.apd_token.specs.declared.items.TokenKind.{TokenKind}
use Rattle.apd_token.specs.declared.items.TokenKind.TheVariants.{Integer}
use Rattle.apd_causes.specs.declared.faults.TokenFault.TheVariants as faults
use Rattle.apd_token.specs.declared.found.Found.{Found}
use Rattle.apd_token.specs.declared.found.Found.TheVariants.{Passed, Item, Bad}
use Rattle.apd_token.proofs.Slices.{scans, slice_first, slice_more, slice_none, slice_one, length-slice, one_byte, no_close_in, two_bytes, drop_two, class_digit, class_graphic}
use Rattle.apd_token.proofs.Longest.{run, alone, comment, open_comment, graphic, integer, float, marked_run, marked_char}

pub run_scans : (cls : Class) (set : Set) (xs : List ℕ) (at upto : ℕ) (w : Found) → at < upto → upto ≤ length xs
    → class_of (get_or xs at 0) ≡ cls
    → FormOf cls at w (get_or xs at 0) (slice_range xs (at + 1) upto) (drop upto xs)
    → ((v : Found) (cs rest : List ℕ) → FormOf cls at v (get_or xs at 0) cs rest → AllIn set cs)
    → StopsRun set (drop upto xs) → Scans xs at w upto
run_scans cls set xs at upto w lt le e form only stops =
    scans xs at upto w _ _ lt le (slice_first xs at upto lt le) refl (run cls set at w _ _ _ e form only stops)

pub alone_scans : (cls : Class) (xs : List ℕ) (at : ℕ) (w : Found) → at < length xs
    → class_of (get_or xs at 0) ≡ cls
    → FormOf cls at w (get_or xs at 0) [] (drop (at + 1) xs)
    → ((v : Found) (cs rest : List ℕ) → FormOf cls at v (get_or xs at 0) cs rest → cs ≡ [])
    → Scans xs at w (at + 1)
alone_scans cls xs at w lt e form only =
    scans xs at (at + 1) w _ _ (omega arith) (omega arith) (slice_one xs at lt) refl (alone cls at w _ _ e form only)

-- from the third byte of a comment on
inside : (xs : List ℕ) (at upto : ℕ) → BeginsComment (drop at xs) → at + 2 ≤ upto → upto ≤ length xs → slice_range xs at upto ≡ 47 ∷ 42 ∷ slice_range xs (at + 2) upto
inside xs at upto (more, begun) le within =
    let two = two_bytes xs at 47 42 more begun in
    let n : at + 1 + 1 ≡ at + 2 = omega arith in
    slice_first xs at upto (omega arith) within
    ∙ (λ i. two.1 i ∷ slice_first xs (at + 1) upto (omega arith) within i)
    ∙ (λ i. 47 ∷ two.2 i ∷ slice_range xs (n i) upto)

pub comment_scans : (xs : List ℕ) (at k : ℕ) → BeginsComment (drop at xs) → IsFirstClose xs (at + 2) k → Scans xs at Passed (k + 2)
comment_scans xs at k begun c =
    let from = c.beyond in
    let within = c.within in
    let body = slice_range xs (at + 2) k in
    let star : slice_range xs (at + 2) (k + 1) ≡ body ++ 42 ∷ [] = slice_more xs (at + 2) k from (omega arith) ∙ ap (λ b. body ++ b ∷ []) c.star in
    let slash : slice_range xs (at + 2) (k + 1 + 1) ≡ (body ++ 42 ∷ []) ++ 47 ∷ [] = slice_more xs (at + 2) (k + 1) (omega arith) within ∙ (λ i. star i ++ c.slash i ∷ []) in
    let n : k + 2 ≡ k + 1 + 1 = omega arith in
    let bytes : slice_range xs at (k + 2) ≡ 47 ∷ 42 ∷ (body ++ 42 ∷ 47 ∷ []) =
    inside xs at (k + 2) begun (omega arith) (omega arith) ∙ ap (λ e. 47 ∷ 42 ∷ slice_range xs (at + 2) e) n ∙ ap (λ l. 47 ∷ 42 ∷ l) (slash ∙ append_assoc body (42 ∷ []) (47 ∷ [])) in
    let none : HasNoClose (body ++ 42 ∷ []) = subst HasNoClose star (no_close_in xs (at + 2) (k + 1) (omega arith) (omega arith) c.first) in
    scans xs at (k + 2) Passed _ _ (omega arith) (omega arith) bytes refl (comment at body (drop (k + 2) xs) none)

pub open_scans : (xs : List ℕ) (at : ℕ) → BeginsComment (drop at xs) → at + 1 < length xs → NoCloseBelow xs (at + 2) (length xs) → Scans xs at (Bad (faults.OpenComment at)) (length xs)
open_scans xs at begun room none =
    scans xs at (length xs) (Bad (faults.OpenComment at)) _ _ (omega arith) (omega arith)
    (inside xs at (length xs) begun (omega arith) (omega arith)) (drop_all (length xs) xs (omega arith))
    (open_comment at (slice_range xs (at + 2) (length xs)) (no_close_in xs (at + 2) (length xs) (omega arith) (omega arith) none))

pub graphic_scans : (xs : List ℕ) (at upto : ℕ) (k : TokenKind) → at < upto → upto ≤ length xs
    → class_of (get_or xs at 0) ≡ classes.Graphic
    → (AllIn sets.Symbols (slice_range xs at upto) → GraphicForm at (Item k) (slice_range xs at upto) (drop upto xs))
    → AllIn sets.Symbols (slice_range xs (at + 1) upto) → StopsRun sets.Symbols (drop upto xs)
    → (BeginsComment (drop at xs) → ⊥)
    → Scans xs at (Item k) upto
graphic_scans xs at upto k lt le e form all stops none =
    let b = get_or xs at 0 in
    let bs = slice_range xs (at + 1) upto in
    let first = slice_first xs at upto lt le in
    let all' : AllIn sets.Symbols (slice_range xs at upto) = subst (AllIn sets.Symbols) (sym first) (class_graphic b e, all) in
    let form' : GraphicForm at (Item k) (b ∷ bs) (drop upto xs) = subst (λ (l : List ℕ). GraphicForm at (Item k) l (drop upto xs)) first (form all') in
    let split : drop at xs ≡ (b ∷ bs) ++ drop upto xs = drop_split xs at upto (omega arith) ∙ ap (λ l. l ++ drop upto xs) first in
    scans xs at upto (Item k) _ _ lt le first refl
    (graphic at k b bs (drop upto xs) e form' stops (λ begun. none (subst BeginsComment (sym split) begun)))

pub integer_scans : (xs : List ℕ) (at upto : ℕ) (w : Found) → at < upto → upto ≤ length xs
    → class_of (get_or xs at 0) ≡ classes.Digit
    → AllIn sets.Digits (slice_range xs (at + 1) upto) → StopsRun sets.Digits (drop upto xs)
    → NoMarked at (drop at xs)
    → (decimal (slice_range xs at upto) ≤ 2 ^ 63 → HasFraction xs upto → ⊥)
    → w ≡ number at (decimal (slice_range xs at upto))
    → Scans xs at w upto
integer_scans xs at upto w lt le e all stops unmarked none is =
    let first = slice_first xs at upto lt le in
    let b = get_or xs at 0 in
    let bs = slice_range xs (at + 1) upto in
    let split : drop at xs ≡ (b ∷ bs) ++ drop upto xs = drop_split xs at upto (omega arith) ∙ ap (λ l. l ++ drop upto xs) first in
    scans xs at upto w _ _ lt le first refl
    (integer at b bs (drop upto xs) e (subst (NoMarked at) split unmarked) (class_digit b e, all) stops
    (λ narrow d more rest digit.
    let two = two_bytes xs upto 46 d more rest in
    none (subst (λ (l : List ℕ). decimal l ≤ 2 ^ 63) (sym first) narrow) (record { room = two.0; point = two.1; digit = subst (λ (n : ℕ). in_set sets.Digits n ≡ true) (sym two.2) digit }))
    w (is ∙ ap (λ l. number at (decimal l)) first))

pub float_scans : (xs : List ℕ) (at upto : ℕ) → at < upto → upto ≤ length xs
    → class_of (get_or xs at 0) ≡ classes.Digit
    → AllIn sets.Digits (slice_range xs (at + 1) upto)
    → NoMarked at (drop at xs)
    → decimal (slice_range xs at upto) ≤ 2 ^ 63 → HasFraction xs upto
    → Scans xs at (Bad (faults.FloatLiteral at)) (upto + 2)
float_scans xs at upto lt le e all unmarked narrow f =
    let first = slice_first xs at upto lt le in
    let b = get_or xs at 0 in
    let bs = slice_range xs (at + 1) upto in
    let d = get_or xs (upto + 1) 0 in
    let room = f.room in
    let n : upto + 2 ≡ upto + 1 + 1 = omega arith in
    let one : slice_range xs (at + 1) (upto + 1) ≡ bs ++ 46 ∷ [] = slice_more xs (at + 1) upto (omega arith) (omega arith) ∙ ap (λ c. bs ++ c ∷ []) f.point in
    let two : slice_range xs (at + 1) (upto + 1 + 1) ≡ (bs ++ 46 ∷ []) ++ d ∷ [] = slice_more xs (at + 1) (upto + 1) (omega arith) room ∙ ap (λ l. l ++ d ∷ []) one in
    let bytes : slice_range xs at (upto + 2) ≡ b ∷ (bs ++ 46 ∷ d ∷ []) =
    ap (slice_range xs at) n ∙ slice_first xs at (upto + 1 + 1) (omega arith) (omega arith) ∙ ap (λ l. b ∷ l) (two ∙ append_assoc bs (46 ∷ []) (d ∷ [])) in
    let split : drop at xs ≡ (b ∷ (bs ++ 46 ∷ d ∷ [])) ++ drop (upto + 2) xs = drop_split xs at (upto + 2) (omega arith) ∙ ap (λ l. l ++ drop (upto + 2) xs) bytes in
    scans xs at (upto + 2) (Bad (faults.FloatLiteral at)) _ _ (omega arith) (omega arith) bytes refl
    (float at b bs d (drop (upto + 2) xs) e (subst (NoMarked at) split unmarked) (class_digit b e, all) f.digit (subst (λ (l : List ℕ). decimal l ≤ 2 ^ 63) first narrow))

-- a number by how wide it is
pub narrow_number : (at n : ℕ) → n ≤ 2 ^ 63 → Item (Integer n) ≡ number at n
narrow_number at n le = let t : nat_le n (2 ^ 63) ≡ true = le-leb n (2 ^ 63) le in rw t refl

pub wide_number : (at n : ℕ) → 2 ^ 63 < n → Bad (faults.NumberTooWide at) ≡ number at n
wide_number at n lt = let t : nat_le n (2 ^ 63) ≡ false = grind arith in rw t refl

pub comment_front : (xs : List ℕ) (at upto : ℕ) → at ≤ upto → BeginsComment (slice_range xs at upto) → BeginsComment (drop at xs)
comment_front xs at upto le (more, begun) = (more ++ drop upto xs, drop_split xs at upto le ∙ ap (λ l. l ++ drop upto xs) begun)

-- an end is one full stop
pub end_bytes : (xs : List ℕ) (at upto : ℕ) → at < upto → upto ≤ length xs → IsEnd (slice_range xs at upto) (drop upto xs) → (upto ≡ at + 1) × (get_or xs at 0 ≡ 46)
end_bytes xs at upto lt le is =
    let len : upto - at ≡ 1 = sym (length-slice xs at upto (omega arith) le) ∙ ap length is.0 in
    let first : get_or xs at 0 ∷ slice_range xs (at + 1) upto ≡ 46 ∷ [] = sym (slice_first xs at upto lt le) ∙ is.0 in
    (omega arith, cc)

-- no marked number, by the byte behind the 0
pub no_mark_zero : (xs : List ℕ) (at : ℕ) → (get_or xs at 0 ≡ 48 → ⊥) → NoMarked at (drop at xs)
no_mark_zero xs at other = record {
  none = λ v bytes rest e m.
      let one = one_byte xs at 48 (m.mark ∷ (m.rest ++ rest)) (e ∙ ap (λ l. l ++ rest) m.spelled) in other one.1;
}

pub no_mark_end : (xs : List ℕ) (at : ℕ) → length xs ≤ at + 1 → NoMarked at (drop at xs)
no_mark_end xs at le = record {
  none = λ v bytes rest e m.
      let two = two_bytes xs at 48 m.mark (m.rest ++ rest) (e ∙ ap (λ l. l ++ rest) m.spelled) in let lt = two.0 in omega arith;
}

pub no_mark : (xs : List ℕ) (at : ℕ) (k : NumberMark) → k ≡ mark_of (get_or xs (at + 1) 0)
    → ((v : Found) (bytes rest : List ℕ) → drop (at + 2) xs ≡ bytes ++ rest → MarkedForm k at v bytes rest → ⊥) → NoMarked at (drop at xs)
no_mark xs at k is none = record {
  none = λ v bytes rest e m.
      let two = two_bytes xs at 48 m.mark (m.rest ++ rest) (e ∙ ap (λ l. l ++ rest) m.spelled) in
      let lt = two.0 in
      let split = drop_two xs at lt in
      let tail : drop (at + 2) xs ≡ m.rest ++ rest = let h = e ∙ ap (λ l. l ++ rest) m.spelled in cc in
      none v m.rest rest tail (subst (λ (q : NumberMark). MarkedForm q at v m.rest rest) (sym (is ∙ ap mark_of two.2)) m.form);
}

-- where no digit of the set stands, no number of a radix does
pub no_radix : (set : Set) (radix at : ℕ) (text : List ℕ) → StopsRun set text → (v : Found) (bytes rest : List ℕ) → text ≡ bytes ++ rest → RadixForm radix set at v bytes → ⊥
no_radix set radix at text stops v [] rest e f = let h = f.0 in omega arith
no_radix set radix at text stops v (b ∷ bytes) rest e f = let h : in_set set b ≡ false = subst (StopsRun set) e stops in let g = f.1.0 in cc

-- a piece behind a 0 and a mark
after_mark : (xs : List ℕ) (at upto : ℕ) → get_or xs at 0 ≡ 48 → at + 2 ≤ upto → upto ≤ length xs → slice_range xs at upto ≡ 48 ∷ get_or xs (at + 1) 0 ∷ slice_range xs (at + 2) upto
after_mark xs at upto zero_is le within =
    let n : at + 1 + 1 ≡ at + 2 = omega arith in
    slice_first xs at upto (omega arith) within
    ∙ (λ i. zero_is i ∷ slice_first xs (at + 1) upto (omega arith) within i)
    ∙ (λ i. 48 ∷ get_or xs (at + 1) 0 ∷ slice_range xs (n i) upto)

pub radix_scans : (k : NumberMark) (radix : ℕ) (set : Set) (xs : List ℕ) (at upto : ℕ) (w : Found) → get_or xs at 0 ≡ 48 → k ≡ mark_of (get_or xs (at + 1) 0) → HasRadix xs at radix set w upto
    → (RadixForm radix set at w (slice_range xs (at + 2) upto) → MarkedForm k at w (slice_range xs (at + 2) upto) (drop upto xs))
    → ((v : Found) (cs rest : List ℕ) → MarkedForm k at v cs rest → AllIn set cs)
    → Scans xs at w upto
radix_scans k radix set xs at upto w zero_is is h form only =
    let lt = h.beyond in
    scans xs at upto w _ _ (omega arith) h.within (after_mark xs at upto zero_is (omega arith) h.within) refl
    (marked_run k set at w (get_or xs (at + 1) 0) (slice_range xs (at + 2) upto) (drop upto xs) (sym is) (form h.form) only h.stops)

pub char_scans : (xs : List ℕ) (at upto : ℕ) (w : Found) → get_or xs at 0 ≡ 48 → get_or xs (at + 1) 0 ≡ 39 → at + 2 ≤ upto → upto ≤ length xs
    → CharForm at w (slice_range xs (at + 2) upto) (drop upto xs) → Scans xs at w upto
char_scans xs at upto w zero_is quote_is le within form =
    scans xs at upto w _ _ (omega arith) within (after_mark xs at upto zero_is le within ∙ (λ i. 48 ∷ quote_is i ∷ slice_range xs (at + 2) upto)) refl
    (marked_char at w (slice_range xs (at + 2) upto) (drop upto xs) form)

-- the forms of one character behind `0'`
pub char_open : (xs : List ℕ) (at : ℕ) → length xs ≡ at + 2 → CharForm at (Bad (faults.OpenQuote at)) (slice_range xs (at + 2) (at + 2)) (drop (at + 2) xs)
char_open xs at e = subst (λ (l : List ℕ). CharForm at (Bad (faults.OpenQuote at)) l (drop (at + 2) xs)) (sym (slice_none xs (at + 2))) (drop_all (at + 2) xs (omega arith), refl)

third : (xs : List ℕ) (at upto : ℕ) → at + 2 < upto → upto ≤ length xs → slice_range xs (at + 2) upto ≡ get_or xs (at + 2) 0 ∷ slice_range xs (at + 3) upto
third xs at upto lt le = let n : at + 2 + 1 ≡ at + 3 = omega arith in slice_first xs (at + 2) upto lt le ∙ (λ i. get_or xs (at + 2) 0 ∷ slice_range xs (n i) upto)

pub char_form : (xs : List ℕ) (at upto c : ℕ) (w : Found) → at + 2 < upto → upto ≤ length xs → get_or xs (at + 2) 0 ≡ c
    → CharOf (c == 92) (c == 39) at w c (slice_range xs (at + 3) upto) (drop upto xs) → CharForm at w (slice_range xs (at + 2) upto) (drop upto xs)
char_form xs at upto c w lt le is f =
    subst (λ (l : List ℕ). CharForm at w l (drop upto xs)) (sym (third xs at upto lt le ∙ (λ i. is i ∷ slice_range xs (at + 3) upto))) f

pub no_code_end : (xs : List ℕ) (at : ℕ) → length xs ≤ at → NoCodeIn (drop at xs)
no_code_end xs at le e bytes rest code same is = let none = drop_all at xs le in cc

pub no_code_here : (xs : List ℕ) (at : ℕ) → at < length xs → NoCode xs at → NoCodeIn (drop at xs)
no_code_here xs at lt none e bytes rest code same is =
    let split = drop_more xs at 0 lt in
    let head : e ≡ get_or xs at 0 = cc in
    let tail : drop (at + 1) xs ≡ bytes ++ rest = cc in
    none bytes rest code (subst (λ (n : ℕ). CodeOf (escape_of n) n bytes code) head is) tail

not_next_of : (q : ℕ) (xs : List ℕ) (at : ℕ) (rest : List ℕ) → drop at xs ≡ rest → (at < length xs → get_or xs at 0 ≡ q → ⊥) → NotNext q rest
not_next_of q xs at [] e other = tt
not_next_of q xs at (b ∷ rest) e other = let one = one_byte xs at b rest e in λ same. other one.0 (one.1 ∙ same)

pub not_next : (q : ℕ) (xs : List ℕ) (at : ℕ) → (at < length xs → get_or xs at 0 ≡ q → ⊥) → NotNext q (drop at xs)
not_next q xs at other = not_next_of q xs at (drop at xs) refl other

-- each way in which `0'` goes on
pub coded_bad_escape : (xs : List ℕ) (at : ℕ) → get_or xs at 0 ≡ 48 → get_or xs (at + 1) 0 ≡ 39 → at + 3 ≤ length xs → get_or xs (at + 2) 0 ≡ 92 → NoCodeIn (drop (at + 3) xs) → Scans xs at (Bad (faults.BadEscape (at + 2))) (at + 3)
coded_bad_escape xs at zero_is quote_is le back none =
    char_scans xs at (at + 3) (Bad (faults.BadEscape (at + 2))) zero_is quote_is (omega arith) le
    (char_form xs at (at + 3) 92 (Bad (faults.BadEscape (at + 2))) (omega arith) le back
    (subst (λ (l : List ℕ). CharOf true false at (Bad (faults.BadEscape (at + 2))) 92 l (drop (at + 3) xs)) (sym (slice_none xs (at + 3))) (none, refl)))

pub coded_escape : (xs : List ℕ) (at upto code : ℕ) → get_or xs at 0 ≡ 48 → get_or xs (at + 1) 0 ≡ 39 → get_or xs (at + 2) 0 ≡ 92 → HasCode xs (at + 3) upto code → Scans xs at (Item (Integer code)) upto
coded_escape xs at upto code zero_is quote_is back h =
    let lt = h.beyond in
    char_scans xs at upto (Item (Integer code)) zero_is quote_is (omega arith) h.within
    (char_form xs at upto 92 (Item (Integer code)) (omega arith) h.within back
    (subst (λ (l : List ℕ). CharOf true false at (Item (Integer code)) 92 l (drop upto xs)) (sym (slice_first xs (at + 3) upto lt h.within)) (code, h.is_code, refl)))

pub coded_single : (xs : List ℕ) (at : ℕ) → get_or xs at 0 ≡ 48 → get_or xs (at + 1) 0 ≡ 39 → at + 3 ≤ length xs → get_or xs (at + 2) 0 ≡ 39 → NotNext 39 (drop (at + 3) xs) → Scans xs at (Bad (faults.BadEscape (at + 2))) (at + 3)
coded_single xs at zero_is quote_is le same next =
    char_scans xs at (at + 3) (Bad (faults.BadEscape (at + 2))) zero_is quote_is (omega arith) le
    (char_form xs at (at + 3) 39 (Bad (faults.BadEscape (at + 2))) (omega arith) le same
    (subst (λ (l : List ℕ). CharOf false true at (Bad (faults.BadEscape (at + 2))) 39 l (drop (at + 3) xs)) (sym (slice_none xs (at + 3))) (next, refl)))

pub coded_double : (xs : List ℕ) (at : ℕ) → get_or xs at 0 ≡ 48 → get_or xs (at + 1) 0 ≡ 39 → at + 4 ≤ length xs → get_or xs (at + 2) 0 ≡ 39 → get_or xs (at + 3) 0 ≡ 39 → Scans xs at (Item (Integer 39)) (at + 4)
coded_double xs at zero_is quote_is le same again =
    let n : at + 4 ≡ at + 3 + 1 = omega arith in
    let rest : slice_range xs (at + 3) (at + 4) ≡ 39 ∷ [] = ap (slice_range xs (at + 3)) n ∙ slice_one xs (at + 3) (omega arith) ∙ ap (λ b. b ∷ []) again in
    char_scans xs at (at + 4) (Item (Integer 39)) zero_is quote_is (omega arith) le
    (char_form xs at (at + 4) 39 (Item (Integer 39)) (omega arith) le same
    (subst (λ (l : List ℕ). CharOf false true at (Item (Integer 39)) 39 l (drop (at + 4) xs)) (sym rest) (refl, refl, refl)))

plain_char : (t s : Bool) (at c code : ℕ) (cs after : List ℕ) → t ≡ false → s ≡ false → c ∷ cs ≡ encode_utf8 code → CharOf t s at (Item (Integer code)) c cs after
plain_char true s at c code cs after p q e = absurd cc
plain_char false true at c code cs after p q e = absurd cc
plain_char false false at c code cs after p q e = (code, e, refl)

pub coded_plain : (xs : List ℕ) (at upto code : ℕ) → get_or xs at 0 ≡ 48 → get_or xs (at + 1) 0 ≡ 39 → (get_or xs (at + 2) 0 ≡ 92 → ⊥) → (get_or xs (at + 2) 0 ≡ 39 → ⊥) → HasChar xs (at + 2) code upto → Scans xs at (Item (Integer code)) upto
coded_plain xs at upto code zero_is quote_is no_back no_quote h =
    let lt = h.beyond in
    let c = get_or xs (at + 2) 0 in
    char_scans xs at upto (Item (Integer code)) zero_is quote_is (omega arith) h.within
    (char_form xs at upto c (Item (Integer code)) (omega arith) h.within refl
    (plain_char (c == 92) (c == 39) at c code (slice_range xs (at + 3) upto) (drop upto xs) (ne_eqb c 92 no_back) (ne_eqb c 39 no_quote) (sym (third xs at upto (omega arith) h.within) ∙ h.spelled)))

-- Parts of a text, and runs in them.
use Rattle.std.proofs.Common.{◌≡◌, ℕ, ◌+◌, ◌-◌, ◌<◌, ◌≤◌, List, [], ◌∷◌, ◌++◌, length, get_or, take, drop, refl, sym, ◌∙◌, ap, subst, Bool, true, false, if◌then◌else◌, arith, add-one, append_assoc, length-append, length-take-le, length-drop, get_or-take, get_or-drop}
use Rattle.std.specs.List.{slice_range}
use Rattle.std.proofs.lemmas.List.{take_more, drop_more, append_cancel_right, get_or_at, get_or-append-add}
use Rattle.std.proofs.lemmas.List.Folds.{drop_split}
use Rattle.apd_token.specs.Bytes.{in_set, class_of}
use Rattle.apd_token.specs.Quotes.{AllIn}
use Rattle.apd_token.specs.Grammar.{HasNoClose, Begins}
use Rattle.apd_token.specs.Scan.{NoCloseBelow, Scans}
use Rattle.apd_token.specs.declared.bytes.Set.{Set}
use Rattle.apd_token.specs.declared.bytes.Set.TheVariants as sets
use Rattle.apd_token.specs.declared.bytes.Class.TheVariants as classes
use Rattle.apd_token.specs.declared.found.Found.{Found}

-- one more byte at the end
pub slice_more : (xs : List ℕ) (a e : ℕ) → a ≤ e → e < length xs → slice_range xs a (e + 1) ≡ slice_range xs a e ++ get_or xs e 0 ∷ []
slice_more xs a e le lt =
    let n : e + 1 - a ≡ (e - a) + 1 = omega arith in
    let m : a + (e - a) ≡ e = omega arith in
    let len : e - a < length (drop a xs) = omega (arith, length-drop a xs) in
    ap (λ k. take k (drop a xs)) n ∙ take_more (drop a xs) (e - a) 0 len
    ∙ ap (λ y. take (e - a) (drop a xs) ++ y ∷ []) (get_or-drop a xs (e - a) 0 ∙ ap (λ k. get_or xs k 0) m)

pub slice_none : (xs : List ℕ) (a : ℕ) → slice_range xs a a ≡ []
slice_none xs a = let e : a - a ≡ 0 = omega arith in ap (λ k. take k (drop a xs)) e

-- the first byte of a part
pub slice_first : (xs : List ℕ) (a e : ℕ) → a < e → e ≤ length xs → slice_range xs a e ≡ get_or xs a 0 ∷ slice_range xs (a + 1) e
slice_first xs a e lt le =
    let n : e - a ≡ (e - (a + 1)) + 1 = omega arith in
    let lt' : a < length xs = omega arith in
    ap (λ k. take k (drop a xs)) n ∙ ap (λ l. take (e - (a + 1) + 1) l) (drop_more xs a 0 lt') ∙ rw add-one refl

pub AllIn-push : (set : Set) (xs : List ℕ) (b : ℕ) → AllIn set xs → in_set set b ≡ true → AllIn set (xs ++ b ∷ [])
AllIn-push set [] b all h = (h, tt)
AllIn-push set (x ∷ xs) b all h = (all.0, AllIn-push set xs b all.1 h)

pub AllIn_more : (set : Set) (xs : List ℕ) (a e : ℕ) → a ≤ e → e < length xs → AllIn set (slice_range xs a e) → in_set set (get_or xs e 0) ≡ true → AllIn set (slice_range xs a (e + 1))
AllIn_more set xs a e le lt all h = subst (AllIn set) (sym (slice_more xs a e le lt)) (AllIn-push set _ _ all h)

pub length-slice : (xs : List ℕ) (a e : ℕ) → a ≤ e → e ≤ length xs → length (slice_range xs a e) ≡ e - a
length-slice xs a e le lt = length-take-le (e - a) (drop a xs) (omega (arith, length-drop a xs))

pub slice_at : (xs : List ℕ) (a e k : ℕ) → k < e - a → get_or (slice_range xs a e) k 0 ≡ get_or xs (a + k) 0
slice_at xs a e k lt = get_or-take (e - a) (drop a xs) k 0 lt ∙ get_or-drop a xs k 0

-- where no `*/` stands between two places, none is in the part
pub no_close_in : (xs : List ℕ) (a e : ℕ) → a ≤ e → e ≤ length xs → NoCloseBelow xs a e → HasNoClose (slice_range xs a e)
no_close_in xs a e le lt none before after same =
    let n : ℕ = length before in
    let len : e - a ≡ length before + length (42 ∷ 47 ∷ after) = sym (length-slice xs a e le lt) ∙ ap length same ∙ length-append before (42 ∷ 47 ∷ after) in
    let two : length before + 1 < e - a = omega arith in
    let star : get_or xs (a + length before) 0 ≡ 42 = sym (slice_at xs a e (length before) (omega arith)) ∙ ap (λ l. get_or l (length before) 0) same ∙ get_or_at before 42 (47 ∷ after) 0 (length before) refl in
    let slash : get_or xs (a + length before + 1) 0 ≡ 47 = ap (λ k. get_or xs k 0) (let q : a + length before + 1 ≡ a + (length before + 1) = omega arith in q) ∙ sym (slice_at xs a e (length before + 1) two) ∙ ap (λ l. get_or l (length before + 1) 0) same ∙ get_or-append-add before (42 ∷ 47 ∷ after) 1 0 in
    none (a + length before) (omega arith) (omega arith) star slash

-- a piece of the text, from its bytes and what follows
pub scans : (xs : List ℕ) (at upto : ℕ) (w : Found) (bytes after : List ℕ) → at < upto → upto ≤ length xs
    → slice_range xs at upto ≡ bytes → drop upto xs ≡ after
    → Begins at w bytes after (bytes ++ after)
    → Scans xs at w upto
scans xs at upto w bytes after lt le same rest b =
    let split : drop at xs ≡ bytes ++ after = drop_split xs at upto (omega arith) ∙ (λ i. same i ++ rest i) in
    let b' : Begins at w (slice_range xs at upto) (drop upto xs) (bytes ++ after) = subst (λ (l : List ℕ). Begins at w l (drop upto xs) (bytes ++ after)) (sym same) (subst (λ (l : List ℕ). Begins at w bytes l (bytes ++ after)) (sym rest) b) in
    record {
      beyond = lt;
      within = le;
      begins = subst (Begins at w (slice_range xs at upto) (drop upto xs)) (sym split) b';
    }

-- the first two bytes of a rest
pub two_bytes : (xs : List ℕ) (at a b : ℕ) (more : List ℕ) → drop at xs ≡ a ∷ b ∷ more → (at + 1 < length xs) × (get_or xs at 0 ≡ a) × (get_or xs (at + 1) 0 ≡ b)
two_bytes xs at a b more e =
    let zero_more : get_or xs at 0 ≡ a = ap (λ k. get_or xs k 0) (let q : at ≡ at + 0 = omega arith in q) ∙ sym (get_or-drop at xs 0 0) ∙ ap (λ l. get_or l 0 0) e in
    let one_more : get_or xs (at + 1) 0 ≡ b = sym (get_or-drop at xs 1 0) ∙ ap (λ l. get_or l 1 0) e in
    let len : length xs - at ≡ length (a ∷ b ∷ more) = sym (length-drop at xs) ∙ ap length e in
    (omega arith, zero_more, one_more)

pub drop_two : (xs : List ℕ) (at : ℕ) → at + 1 < length xs → drop at xs ≡ get_or xs at 0 ∷ get_or xs (at + 1) 0 ∷ drop (at + 2) xs
drop_two xs at lt =
    let h : at < length xs = omega arith in
    let n : at + 1 + 1 ≡ at + 2 = omega arith in
    drop_more xs at 0 h ∙ ap (λ l. get_or xs at 0 ∷ l) (drop_more xs (at + 1) 0 lt) ∙ ap (λ k. get_or xs at 0 ∷ get_or xs (at + 1) 0 ∷ drop k xs) n

pub slice_one : (xs : List ℕ) (a : ℕ) → a < length xs → slice_range xs a (a + 1) ≡ get_or xs a 0 ∷ []
slice_one xs a lt = slice_more xs a a (omega arith) lt ∙ ap (λ l. l ++ get_or xs a 0 ∷ []) (slice_none xs a)

-- the class of a byte, by its tests
digit_chain : (a b c d e f g h i : Bool) → (if a then classes.Layout else (if b then classes.Small else (if c then classes.Capital else (if d then classes.Digit
    else (if e then classes.Graphic else (if f then classes.Bracket else (if g then classes.Solo else (if h then classes.Percent else (if i then classes.Quote else classes.Other))))))))) ≡ classes.Digit → d ≡ true
digit_chain true b c d e f g h i q = cc
digit_chain false true c d e f g h i q = cc
digit_chain false false true d e f g h i q = cc
digit_chain false false false true e f g h i q = refl
digit_chain false false false false true f g h i q = cc
digit_chain false false false false false true g h i q = cc
digit_chain false false false false false false true h i q = cc
digit_chain false false false false false false false true i q = cc
digit_chain false false false false false false false false true q = cc
digit_chain false false false false false false false false false q = cc

graphic_chain : (a b c d e f g h i : Bool) → (if a then classes.Layout else (if b then classes.Small else (if c then classes.Capital else (if d then classes.Digit
    else (if e then classes.Graphic else (if f then classes.Bracket else (if g then classes.Solo else (if h then classes.Percent else (if i then classes.Quote else classes.Other))))))))) ≡ classes.Graphic → e ≡ true
graphic_chain true b c d e f g h i q = cc
graphic_chain false true c d e f g h i q = cc
graphic_chain false false true d e f g h i q = cc
graphic_chain false false false true e f g h i q = cc
graphic_chain false false false false true f g h i q = refl
graphic_chain false false false false false true g h i q = cc
graphic_chain false false false false false false true h i q = cc
graphic_chain false false false false false false false true i q = cc
graphic_chain false false false false false false false false true q = cc
graphic_chain false false false false false false false false false q = cc

pub class_digit : (b : ℕ) → class_of b ≡ classes.Digit → in_set sets.Digits b ≡ true
class_digit b e = digit_chain _ _ _ _ _ _ _ _ _ e

pub class_graphic : (b : ℕ) → class_of b ≡ classes.Graphic → in_set sets.Symbols b ≡ true
class_graphic b e = graphic_chain _ _ _ _ _ _ _ _ _ e

-- two parts side by side
pub slice_join : (xs : List ℕ) (a b c : ℕ) → a ≤ b → b ≤ c → slice_range xs a c ≡ slice_range xs a b ++ slice_range xs b c
slice_join xs a b c le more =
    let whole : drop a xs ≡ slice_range xs a c ++ drop c xs = drop_split xs a c (omega arith) in
    let parts : drop a xs ≡ slice_range xs a b ++ (slice_range xs b c ++ drop c xs) = drop_split xs a b le ∙ ap (λ l. slice_range xs a b ++ l) (drop_split xs b c more) in
    append_cancel_right (slice_range xs a c) (slice_range xs a b ++ slice_range xs b c) (drop c xs)
    (sym whole ∙ parts ∙ sym (append_assoc (slice_range xs a b) (slice_range xs b c) (drop c xs)))

pub one_byte : (xs : List ℕ) (at a : ℕ) (more : List ℕ) → drop at xs ≡ a ∷ more → (at < length xs) × (get_or xs at 0 ≡ a)
one_byte xs at a more e =
    let zero_more : get_or xs at 0 ≡ a = ap (λ k. get_or xs k 0) (let q : at ≡ at + 0 = omega arith in q) ∙ sym (get_or-drop at xs 0 0) ∙ ap (λ l. get_or l 0 0) e in
    let len : length xs - at ≡ length (a ∷ more) = sym (length-drop at xs) ∙ ap length e in
    (omega arith, zero_more)

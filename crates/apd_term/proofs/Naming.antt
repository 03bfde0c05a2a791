-- Numbers and texts of names: what stays when names are put at the end.
use Rattle.std.proofs.Common.{◌≡◌, ℕ, ◌+◌, ◌<◌, ◌≤◌, get_or, drop, Bool, true, false, cond, not, List, [], ◌∷◌, ◌++◌, length, slice_index_or, if◌then◌else◌, refl, ap, sym, ◌∙◌, subst, arith, zero, suc, length-append, append_assoc, ◌||◌}
use Rattle.std.specs.List.{list_any, position_or_len, IsDistinct, AllByRecursion}
use Rattle.std.specs.Cmp.Lexicographic.{bytes_decides, nat_list_eq_equiv}
use Rattle.std.proofs.lemmas.List.{get_or_append_left, append-nil, drop_more}
use Rattle.std.proofs.lemmas.Bool.{true≢false}
use Rattle.apd_term.specs.declared.term.NameId.{NameId}
use Rattle.apd_term.specs.Growth.{Grown}
use Rattle.apd_term.specs.Names.{same_text, is_name, number_of, text_of_name, with_name, HasDistinctTexts}

-- a text has the same bytes as itself, and no other text has
pub same_text-same : (text : List ℕ) → same_text text text ≡ true
same_text-same text = nat_list_eq_equiv.refl text

pub equal_from_same_text : (a b : List ℕ) → same_text a b ≡ true → a ≡ b
equal_from_same_text a b e = (bytes_decides a b).0 e

module _ {X : Type 0} (p : X → Bool) where
  -- the first place that passes lies within the list exactly where some element passes
  pub position_within : (xs : List X) → list_any p xs ≡ true → position_or_len p xs < length xs
  position_within [] e = absurd (true≢false (sym e))
  position_within (x ∷ xs) e = by (p x) e (position_within xs)
    where
      by : (b : Bool) → b || list_any p xs ≡ true → (list_any p xs ≡ true → position_or_len p xs < length xs) → cond (not b) (1 + position_or_len p xs) 0 < suc (length xs)
      by true e h = omega arith
      by false e h = omega (arith, h e)

  pub position_past : (xs : List X) → list_any p xs ≡ false → position_or_len p xs ≡ length xs
  position_past [] e = refl
  position_past (x ∷ xs) e = by (p x) e (position_past xs)
    where
      by : (b : Bool) → b || list_any p xs ≡ false → (list_any p xs ≡ false → position_or_len p xs ≡ length xs) → cond (not b) (1 + position_or_len p xs) 0 ≡ suc (length xs)
      by true e h = absurd (true≢false e)
      by false e h = omega (arith, h e)

  pub passes_within : (xs : List X) → position_or_len p xs < length xs → list_any p xs ≡ true
  passes_within xs l = by (list_any p xs) refl
    where
      by : (b : Bool) → list_any p xs ≡ b → b ≡ true
      by true e = refl
      by false e = absurd (omega (arith, position_past xs e))

  -- more elements at the end change no place that lies within
  pub position-append : (xs ys : List X) → list_any p xs ≡ true → position_or_len p (xs ++ ys) ≡ position_or_len p xs
  position-append [] ys e = absurd (true≢false (sym e))
  position-append (x ∷ xs) ys e = by (p x) e (position-append xs ys)
    where
      by : (b : Bool) → b || list_any p xs ≡ true → (list_any p xs ≡ true → position_or_len p (xs ++ ys) ≡ position_or_len p xs)
          → cond (not b) (1 + position_or_len p (xs ++ ys)) 0 ≡ cond (not b) (1 + position_or_len p xs) 0
      by true e h = refl
      by false e h = ap (λ n. 1 + n) (h e)

  -- and an element that passes has the length for its place where none before it passes
  pub position_of_new : (xs ys : List X) (y : X) → list_any p xs ≡ false → p y ≡ true → position_or_len p (xs ++ y ∷ ys) ≡ length xs
  position_of_new [] ys y e h = ap (λ b. cond (not b) (1 + position_or_len p ys) 0) h
  position_of_new (x ∷ xs) ys y e h = by (p x) e (λ q. position_of_new xs ys y q h)
    where
      by : (b : Bool) → b || list_any p xs ≡ false → (list_any p xs ≡ false → position_or_len p (xs ++ y ∷ ys) ≡ length xs)
          → cond (not b) (1 + position_or_len p (xs ++ y ∷ ys)) 0 ≡ suc (length xs)
      by true e k = absurd (true≢false e)
      by false e k = omega (arith, k e)

  -- what stands at the first place that passes
  pub passes_there : (xs : List X) (d : X) → position_or_len p xs < length xs → p (slice_index_or xs (position_or_len p xs) d) ≡ true
  passes_there [] d l = absurd (omega arith)
  passes_there (x ∷ xs) d l = by (p x) refl l (passes_there xs d)
    where
      by : (b : Bool) → p x ≡ b → cond (not b) (1 + position_or_len p xs) 0 < suc (length xs)
          → (position_or_len p xs < length xs → p (slice_index_or xs (position_or_len p xs) d) ≡ true)
          → p (slice_index_or (x ∷ xs) (cond (not b) (1 + position_or_len p xs) 0) d) ≡ true
      by true e k h = e
      by false e k h =
          let at : 1 + position_or_len p xs ≡ suc (position_or_len p xs) = omega arith in
          subst (λ n. p (slice_index_or (x ∷ xs) n d) ≡ true) (sym at) (h (omega arith))

-- a text is one of the names exactly where its number is below their count
pub number_of_within : (names : List (List ℕ)) (text : List ℕ) → is_name names text ≡ true → number_of names text < length names
number_of_within names text e = position_within (same_text text) names e

pub number_of_past : (names : List (List ℕ)) (text : List ℕ) → is_name names text ≡ false → number_of names text ≡ length names
number_of_past names text e = position_past (same_text text) names e

pub is_name_within : (names : List (List ℕ)) (text : List ℕ) → number_of names text < length names → is_name names text ≡ true
is_name_within names text l = passes_within (same_text text) names l

-- a text that is among the names keeps its number when names are put at the end
pub number_of-append : (names more : List (List ℕ)) (text : List ℕ) → number_of names text < length names → number_of (names ++ more) text ≡ number_of names text
number_of-append names more text l = position-append (same_text text) names more (is_name_within names text l)

-- an id below the count keeps its text
pub text_of_name-append : (names more : List (List ℕ)) (name : NameId) → name.0 < length names → text_of_name (names ++ more) name ≡ text_of_name names name
text_of_name-append names more name l = get_or_append_left names more [] name.0 l

-- the text of a text's number is that text
pub text_of_number : (names : List (List ℕ)) (text : List ℕ) → number_of names text < length names → text_of_name names (record { 0 = number_of names text }) ≡ text
text_of_number names text l = sym (equal_from_same_text text _ (passes_there (same_text text) names [] l))

-- so two texts with one number are one text
pub number_of-injective : (names : List (List ℕ)) (a b : List ℕ) → number_of names a < length names → number_of names a ≡ number_of names b → a ≡ b
number_of-injective names a b l e =
    sym (text_of_number names a l) ∙ ap (λ n. slice_index_or names n []) e ∙ text_of_number names b (omega arith)

-- a text's number among the names with it
pub number_of-with_name : (names : List (List ℕ)) (text : List ℕ) → number_of (with_name names text) text ≡ number_of names text
number_of-with_name names text = by (is_name names text) refl
  where
    by : (b : Bool) → is_name names text ≡ b → number_of (if b then names else names ++ text ∷ []) text ≡ number_of names text
    by true e = refl
    by false e = position_of_new (same_text text) names [] text e (same_text-same text) ∙ sym (number_of_past names text e)

pub number_of_with_name_within : (names : List (List ℕ)) (text : List ℕ) → number_of names text < length (with_name names text)
number_of_with_name_within names text = by (is_name names text) refl
  where
    by : (b : Bool) → is_name names text ≡ b → number_of names text < length (if b then names else names ++ text ∷ [])
    by true e = number_of_within names text e
    by false e = omega (arith, number_of_past names text e, length-append names (text ∷ []))

-- the names with a text begin with the names as they were
pub with_name_adds : (names : List (List ℕ)) (text : List ℕ) → (more : List (List ℕ)) × (with_name names text ≡ names ++ more) × (length more ≤ 1)
with_name_adds names text = by (is_name names text)
  where
    by : (b : Bool) → (more : List (List ℕ)) × ((if b then names else names ++ text ∷ []) ≡ names ++ more) × (length more ≤ 1)
    by true = ([], sym (append-nil names), omega arith)
    by false = (text ∷ [], refl, omega arith)

pub length-with_name : (names : List (List ℕ)) (text : List ℕ) → length (with_name names text) ≤ length names + 1
length-with_name names text =
    let k = with_name_adds names text in
    omega (arith, ap length k.1, length-append names k.0, k.2)

pub length-with_name_grows : (names : List (List ℕ)) (text : List ℕ) → length names ≤ length (with_name names text)
length-with_name_grows names text =
    let k = with_name_adds names text in
    omega (arith, ap length k.1, length-append names k.0)

-- the names stay distinct
apart_push : (ns : List (List ℕ)) (n text : List ℕ) → AllByRecursion (λ m. same_text n m ≡ false) ns → same_text n text ≡ false
    → AllByRecursion (λ m. same_text n m ≡ false) (ns ++ text ∷ [])
apart_push [] n text h e = (e, tt)
apart_push (m ∷ ns) n text h e = (h.0, apart_push ns n text h.1 e)

or_false : (a b : Bool) → a || b ≡ false → (a ≡ false) × (b ≡ false)
or_false true b e = absurd (true≢false e)
or_false false b e = (refl, e)

pub distinct_push : (names : List (List ℕ)) (text : List ℕ) → HasDistinctTexts names → is_name names text ≡ false → HasDistinctTexts (names ++ text ∷ [])
unfolding IsDistinct
distinct_push [] text h e = (tt, tt)
distinct_push (n ∷ ns) text h e =
    let k = or_false (same_text text n) (is_name ns text) e in
    (apart_push ns n text h.0 (nat_list_eq_equiv.symm n text ∙ k.0), distinct_push ns text h.1 k.1)

pub HasDistinctTexts-with_name : (names : List (List ℕ)) (text : List ℕ) → HasDistinctTexts names → HasDistinctTexts (with_name names text)
HasDistinctTexts-with_name names text h = by (is_name names text) refl
  where
    by : (b : Bool) → is_name names text ≡ b → HasDistinctTexts (if b then names else names ++ text ∷ [])
    by true e = h
    by false e = distinct_push names text h e

-- among distinct names the number of an id's text is that id's
apart_at : (ns : List (List ℕ)) (n : List ℕ) (i : ℕ) → AllByRecursion (λ m. same_text n m ≡ false) ns → i < length ns → same_text (slice_index_or ns i []) n ≡ false
apart_at [] n i h l = absurd (omega arith)
apart_at (m ∷ ns) n zero h l = nat_list_eq_equiv.symm m n ∙ h.0
apart_at (m ∷ ns) n (suc i) h l = apart_at ns n i h.1 (omega arith)

pub number_of_text : (names : List (List ℕ)) (i : ℕ) → HasDistinctTexts names → i < length names → number_of names (slice_index_or names i []) ≡ i
unfolding IsDistinct
number_of_text [] i h l = absurd (omega arith)
number_of_text (n ∷ ns) zero h l = ap (λ b. cond (not b) (1 + position_or_len (same_text n) ns) 0) (same_text-same n)
number_of_text (n ∷ ns) (suc i) h l =
    let text : List ℕ = slice_index_or ns i [] in
    ap (λ b. cond (not b) (1 + position_or_len (same_text text) ns) 0) (apart_at ns n i h.0 (omega arith)) ∙ omega (arith, number_of_text ns i h.1 (omega arith))

-- the place of a text in a walk over the names, here or further on
pub number_here : (names : List (List ℕ)) (text : List ℕ) (i : ℕ) (d : List ℕ) → i < length names → same_text text (get_or names i d) ≡ true
    → number_of names text ≡ i + number_of (drop i names) text → i ≡ number_of names text
number_here names text i d l e w =
    let f : number_of (drop i names) text ≡ 0 =
    ap (λ ns. number_of ns text) (drop_more names i d l) ∙ ap (λ b. cond (not b) (1 + number_of (drop (i + 1) names) text) 0) e in
    omega arith

pub number_further : (names : List (List ℕ)) (text : List ℕ) (i : ℕ) (d : List ℕ) → i < length names → same_text text (get_or names i d) ≡ false
    → number_of names text ≡ i + number_of (drop i names) text → number_of names text ≡ i + 1 + number_of (drop (i + 1) names) text
number_further names text i d l e w =
    let f : number_of (drop i names) text ≡ 1 + number_of (drop (i + 1) names) text =
    ap (λ ns. number_of ns text) (drop_more names i d l) ∙ ap (λ b. cond (not b) (1 + number_of (drop (i + 1) names) text) 0) e in
    omega arith

-- names that begin with others still do with one more text
pub Grown-with_name : (first names : List (List ℕ)) (text : List ℕ) → Grown first names → Grown first (with_name names text)
Grown-with_name first names text grown = by (is_name names text)
  where
    by : (b : Bool) → Grown first (if b then names else names ++ text ∷ [])
    by true = grown
    by false = (grown.0 ++ text ∷ [], ap (λ ns. ns ++ text ∷ []) grown.1 ∙ append_assoc first grown.0 (text ∷ []))

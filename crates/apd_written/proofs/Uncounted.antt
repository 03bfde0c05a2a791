-- The text of a question ends in no number of suspects: no written term ends in a list of one element that is a number and a word.
use Rattle.std.proofs.Common.{◌≡◌, ℕ, ◌<◌, length, List, [], ◌∷◌, ◌++◌, refl, sym, ◌∙◌, ap, subst, arith, Bool, true, false, Option, Some, None}
use Rattle.std.specs.Prelude.{◌==◌, ◌&&◌, if◌then◌else◌, nat_lt, codes}
use Rattle.std.specs.Bool.{then_some}
use Rattle.std.specs.Char.{is_ascii_digit}
use Rattle.std.specs.List.{list_all}
use Rattle.std.specs.Option.{option_map, option_and_then}
use Rattle.std.specs.Str.Parse.{digits_value}
use Rattle.std.proofs.lemmas.Bool.{ltb-true}
use Rattle.apd_term.specs.Canonical.{canonical}
use Rattle.apd_term.specs.Tuple.{canonical_tuple}
use Rattle.apd_ops.specs.Table.{Table}
use Rattle.apd_answers.specs.declared.question.Question.{Question}
use Rattle.apd_answers.specs.declared.question.Question.TheVariants as asks
use Rattle.apd_text.specs.ClauseTerms.{clause_term}
use Rattle.apd_text.specs.Dialogues.{asked_text, atom_text}
use Rattle.apd_write.specs.Writing.{written}
use Rattle.apd_parts.specs.Parts.{Parts, cut, cut_last, number_32, led_with, led_at, uncounted, counted_if, counted_with, counted_at, counted, if_some}
use Rattle.apd_written.specs.Uttered.{IsQuestionWritten}
use Rattle.apd_written.proofs.Endings.{cut-splits, cut_last-splits}
use Rattle.apd_written.proofs.Watching.{Watch, Free, Square, SquareDigits, SquareSpace, SquareWord, Quoted, Slashed, Coded, Found, step, watched, watched-append, turn-calm, calm-by, other_byte, IsCalm, IsEnd, free_start}
use Rattle.apd_written.proofs.WatchedNames.{calming_digits}
use Rattle.apd_written.proofs.Watched.{behind-end, comma-free, written-end}

-- between quotes, or behind what is watched for
data IsOff : Watch → Type 0 where
  quoted_off : IsOff Quoted
  coded_off : IsOff Coded
  found_off : IsOff Found

-- and behind a bracket that was opened
data IsAt : Watch → Type 0 where
  square_at : IsAt Square
  off_at : {w : Watch} → IsOff w → IsAt w

off-apart : {w : Watch} → IsOff w → IsEnd w → ⊥
off-apart quoted_off e = elim e [ ]
off-apart coded_off e = elim e [ ]
off-apart found_off e = elim e [ ]

bracket-at : (w : Watch) → IsAt (step (step w 32) 91)
unfolding step
bracket-at Free = square_at
bracket-at Square = square_at
bracket-at SquareDigits = square_at
bracket-at SquareSpace = square_at
bracket-at SquareWord = square_at
bracket-at Quoted = off_at quoted_off
bracket-at Slashed = off_at quoted_off
bracket-at Coded = off_at coded_off
bracket-at Found = off_at found_off

digit-calm : (b : ℕ) → is_ascii_digit b ≡ true → IsCalm b
digit-calm b d = calm-by is_ascii_digit calming_digits b d

-- digits

off-digit : (b : ℕ) → is_ascii_digit b ≡ true → {w : Watch} → IsOff w → IsOff (step w b)
unfolding step
off-digit b d quoted_off =
    subst IsOff
    (sym (ap (λ t. if t then Free else (if b == 92 then Slashed else Quoted)) (other_byte is_ascii_digit 39 b refl d) ∙ ap (λ t. if t then Slashed else Quoted) (other_byte is_ascii_digit 92 b refl d)))
    quoted_off
off-digit b d coded_off = subst IsOff (sym (ap (λ t. if t then Quoted else Coded) (other_byte is_ascii_digit 92 b refl d))) coded_off
off-digit b d found_off = found_off

digit-digits : (b : ℕ) → is_ascii_digit b ≡ true → step SquareDigits b ≡ SquareDigits
unfolding step
digit-digits b d = turn-calm b (if is_ascii_digit b then SquareDigits else (if b == 32 then SquareSpace else Free)) (digit-calm b d) ∙ ap (λ t. if t then SquareDigits else (if b == 32 then SquareSpace else Free)) d

digit-square : (b : ℕ) → is_ascii_digit b ≡ true → step Square b ≡ SquareDigits
unfolding step
digit-square b d = turn-calm b (if is_ascii_digit b then SquareDigits else Free) (digit-calm b d) ∙ ap (λ t. if t then SquareDigits else Free) d

and_all : (b : ℕ) (bs : List ℕ) → list_all is_ascii_digit (b ∷ bs) ≡ true → (is_ascii_digit b ≡ true) × (list_all is_ascii_digit bs ≡ true)
and_all b bs e = by (is_ascii_digit b) (list_all is_ascii_digit bs) e
  where
    by : (x y : Bool) → (x && y) ≡ true → (x ≡ true) × (y ≡ true)
    by true true f = (refl, refl)
    by true false f = absurd (cc)
    by false y f = absurd (cc)

off-digits : (bs : List ℕ) → list_all is_ascii_digit bs ≡ true → {w : Watch} → IsOff w → IsOff (watched w bs)
off-digits [] e o = o
off-digits (b ∷ bs) e o = let a = and_all b bs e in off-digits bs a.1 (off-digit b a.0 o)

all-digits : (bs : List ℕ) → list_all is_ascii_digit bs ≡ true → watched SquareDigits bs ≡ SquareDigits
all-digits [] e = refl
all-digits (b ∷ bs) e = let a = and_all b bs e in ap (λ w. watched w bs) (digit-digits b a.0) ∙ all-digits bs a.1

-- and the word

abbrev word : List ℕ
word = codes " suspects]"

off-word : {w : Watch} → IsOff w → IsOff (watched w word)
unfolding step
off-word quoted_off = quoted_off
off-word coded_off = coded_off
off-word found_off = found_off

digits-word : watched SquareDigits word ≡ Found
unfolding step
digits-word = refl

behind-bracket : (b : ℕ) (bs : List ℕ) → list_all is_ascii_digit (b ∷ bs) ≡ true → {w : Watch} → IsAt w → IsOff (watched w ((b ∷ bs) ++ word))
behind-bracket b bs e square_at =
    let a = and_all b bs e in
    subst IsOff (sym (watched-append Square (b ∷ bs) word ∙ ap (λ w. watched (watched w bs) word) (digit-square b a.0) ∙ ap (λ w. watched w word) (all-digits bs a.1) ∙ digits-word)) found_off
behind-bracket b bs e (off_at {w} o) = subst IsOff (sym (watched-append w (b ∷ bs) word)) (off-word (off-digits (b ∷ bs) e o))

-- no text whose watch ends as that of a term ends so
no-count : (front ds : List ℕ) → 0 < length ds → list_all is_ascii_digit ds ≡ true → IsEnd (watched Free (front ++ (32 ∷ 91 ∷ (ds ++ word)))) → ⊥
no-count front [] l e h = absurd (omega (arith, l))
no-count front (d ∷ ds) l e h =
    off-apart (behind-bracket d ds e (bracket-at (watched Free front))) (subst IsEnd (watched-append Free front (32 ∷ 91 ∷ ((d ∷ ds) ++ word))) h)

-- what was read as a number is digits
record IsNumber (ds : List ℕ) : Type 0 where
  some : 0 < length ds
  digits : list_all is_ascii_digit ds ≡ true

number-digits : (ds : List ℕ) (n : ℕ) → number_32 ds ≡ Some n → IsNumber ds
number-digits ds n e = by (nat_lt 0 (length ds)) (list_all is_ascii_digit ds) (nat_lt (digits_value 10 ds) 4294967296) refl refl e
  where
    by : (x y z : Bool) → nat_lt 0 (length ds) ≡ x → list_all is_ascii_digit ds ≡ y → then_some (x && (y && z)) (digits_value 10 ds) ≡ Some n → IsNumber ds
    by true true z f g h = record { some = ltb-true 0 (length ds) f; digits = g }
    by true false z f g h = absurd (cc)
    by false y z f g h = absurd (cc)

pub none-counted : (text : List ℕ) → IsEnd (watched Free text) → counted word text ≡ uncounted text
none-counted text h = by (cut_last (32 ∷ 91 ∷ []) text) refl
  where
    -- a number was read with nothing behind it
    whole : (p q : Parts) (n : ℕ) → cut_last (32 ∷ 91 ∷ []) text ≡ Some p → cut word p.1 ≡ Some q → number_32 q.0 ≡ Some n → q.1 ≡ [] → ⊥
    whole p q n e f g last =
        let is : IsNumber q.0 = number-digits q.0 n g in
        let inner : p.1 ≡ q.0 ++ word = cut-splits word p.1 q f ∙ ap (λ r. q.0 ++ (word ++ r)) last in
        let all : text ≡ p.0 ++ (32 ∷ 91 ∷ (q.0 ++ word)) = cut_last-splits (32 ∷ 91 ∷ []) text p e ∙ ap (λ r. p.0 ++ (32 ∷ 91 ∷ r)) inner in
        no-count p.0 q.0 is.some is.digits (subst (λ t. IsEnd (watched Free t)) all h)

    rest : (p q : Parts) (n : ℕ) (more : List ℕ) → q.1 ≡ more → cut_last (32 ∷ 91 ∷ []) text ≡ Some p → cut word p.1 ≡ Some q → number_32 q.0 ≡ Some n → counted_if text p.0 n more ≡ uncounted text
    rest p q n [] l e f g = absurd (whole p q n e f g l)
    rest p q n (b ∷ bs) l e f g = refl

    number : (p q : Parts) (o : Option ℕ) → cut_last (32 ∷ 91 ∷ []) text ≡ Some p → cut word p.1 ≡ Some q → number_32 q.0 ≡ o
        → if_some (option_map (led_with q.1) o) (counted_with text p.0) (uncounted text) ≡ uncounted text
    number p q None e f g = refl
    number p q (Some n) e f g = rest p q n q.1 refl e f g

    at : (p : Parts) (o : Option Parts) → cut_last (32 ∷ 91 ∷ []) text ≡ Some p → cut word p.1 ≡ o → if_some (option_and_then led_at o) (counted_with text p.0) (uncounted text) ≡ uncounted text
    at p None e f = refl
    at p (Some q) e f = number p q (number_32 q.0) e f refl

    by : (o : Option Parts) → cut_last (32 ∷ 91 ∷ []) text ≡ o → if_some o (counted_at word text) (uncounted text) ≡ uncounted text
    by None e = refl
    by (Some p) e = at p (cut word p.1) e refl

module _ (ops : Table) (names : List (List ℕ)) where
  front-free : (front t : List ℕ) → watched Free front ≡ Free → IsEnd (watched Free t) → IsEnd (watched Free (front ++ t))
  front-free front t e h = behind-end front t Free e h

  asks-free : watched Free (codes "true? ") ≡ Free
  unfolding step
  asks-free = refl

  covers-free : watched Free (codes "covers? ") ≡ Free
  unfolding step
  covers-free = refl

  below-free : watched Free (codes "below? ") ≡ Free
  unfolding step
  below-free = refl

  question-end : (q : Question) → IsQuestionWritten ops names q → IsEnd (watched Free (asked_text ops names q))
  unfolding asked_text
  question-end (asks.True a) w = front-free (codes "true? ") (atom_text ops names a) asks-free (written-end ops names (canonical a) w.writable.named w.writable.in_range 999 Free free_start)
  question-end (asks.Covers t) w =
      let c = clause_term (canonical_tuple t) in
      front-free (codes "covers? ") (written ops names c 1200) covers-free (written-end ops names c w.writable.named w.writable.in_range 1200 Free free_start)
  question-end (asks.Below q p) w =
      let a = atom_text ops names q in
      let first : IsEnd (watched Free (codes "below? " ++ a)) = front-free (codes "below? ") a below-free (written-end ops names (canonical q) w.goals_are.0.named w.goals_are.0.in_range 999 Free free_start) in
      behind-end (codes "below? " ++ a ++ codes ", ") (atom_text ops names p) Free (watched-append Free (codes "below? " ++ a) (codes ", ") ∙ comma-free first)
      (written-end ops names (canonical p) w.goals_are.1.0.named w.goals_are.1.0.in_range 999 Free free_start)

  pub question-uncounted : (q : Question) → IsQuestionWritten ops names q → counted word (asked_text ops names q) ≡ uncounted (asked_text ops names q)
  question-uncounted q w = none-counted (asked_text ops names q) (question-end q w)

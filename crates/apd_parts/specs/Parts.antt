-- The parts of a line: what stands behind its beginning, on both sides of some bytes, and the numbers in it.
use Rattle.std.specs.Prelude.{ℕ, ◌==◌, ◌&&◌, ◌||◌, ◌++◌, ◌+◌, nat_lt, codes, Bool, false, List, [], ◌∷◌, length, take, drop, if◌then◌else◌, Option, None, Some}
use Rattle.std.specs.Bool.{then_some}
use Rattle.std.specs.Char.{is_ascii_digit}
use Rattle.std.specs.List.{list_all}
use Rattle.std.specs.Option.{option_map, option_and_then, option_or}
use Rattle.std.specs.Str.Parse.{digits_value}
use Rattle.apd_parts.specs.declared.boxes.Quote.{Quote}
use Rattle.apd_parts.specs.declared.boxes.Quote.TheVariants.{Outside, Inside, Escaped, Hexadecimal}

-- what is made of it, where it is there; else this
abbrev pub if_some : {A B : Type 0} → Option A → (A → B) → B → B
if_some None made other = other
if_some (Some a) made other = made a

-- what stands on both sides of some bytes
abbrev pub Parts : Type 0
Parts = List ℕ × List ℕ

-- what stands behind these bytes, where the text begins with them
abbrev pub after : List ℕ → List ℕ → Option (List ℕ)
after [] text = Some text
after (b ∷ bs) [] = None
after (b ∷ bs) (c ∷ text) = if c == b then after bs text else None

-- nothing before, and this behind
abbrev pub at_start : List ℕ → Parts
at_start rest = ([], rest)

-- a byte more before
abbrev pub onto_part : ℕ → Parts → Parts
onto_part b parts = (b ∷ parts.0, parts.1)

-- what stands before some bytes (at least one) and behind them, where they first stand in the text
abbrev pub cut : List ℕ → List ℕ → Option Parts
cut bytes [] = None
cut bytes (b ∷ text) = option_or (option_map at_start (after bytes (b ∷ text))) (option_map (onto_part b) (cut bytes text))

-- and where they last do
abbrev pub cut_last : List ℕ → List ℕ → Option Parts
cut_last bytes [] = None
cut_last bytes (b ∷ text) = option_or (option_map (onto_part b) (cut_last bytes text)) (option_map at_start (after bytes (b ∷ text)))

-- where the byte behind this one stands: a quote opens and closes, and within quotes a backslash escapes the next byte, or begins
-- hexadecimal digits up to another one
abbrev pub quote_after : Quote → ℕ → Quote
quote_after Outside b = if b == 39 then Inside else Outside
quote_after Inside b = if b == 39 then Outside else (if b == 92 then Escaped else Inside)
quote_after Escaped b = if b == 120 then Hexadecimal else Inside
quote_after Hexadecimal b = if b == 92 then Inside else Hexadecimal

-- the first part, where there is nothing in the second
abbrev pub if_last : List ℕ → List ℕ → Option (List ℕ)
if_last front [] = Some front
if_last front (b ∷ rest) = None

abbrev pub last_part : Parts → Option (List ℕ)
last_part p = if_last p.0 p.1

-- what stands before these bytes, where the text ends with them
abbrev pub before : List ℕ → List ℕ → Option (List ℕ)
before bytes text = option_and_then last_part (cut_last bytes text)

-- the number that decimal digits write, where it is below the limit
abbrev pub number_in : ℕ → List ℕ → Option ℕ
number_in limit text =
    then_some (nat_lt 0 (length text) && (list_all is_ascii_digit text && nat_lt (digits_value 10 text) limit)) (digits_value 10 text)

-- numbers of 32 and 64 bits
abbrev pub number_32 : List ℕ → Option ℕ
number_32 text = number_in 4294967296 text

abbrev pub number_64 : List ℕ → Option ℕ
number_64 text = number_in 18446744073709551616 text

-- the number of 32 bits before some bytes, and what stands behind them
pub record Led : Type 0 where
  pub number : ℕ
  pub rest : List ℕ

abbrev pub led_with : List ℕ → ℕ → Led
led_with rest n = record { number = n; rest = rest }

abbrev pub led_at : Parts → Option Led
led_at p = option_map (led_with p.1) (number_32 p.0)

abbrev pub led_by : List ℕ → List ℕ → Option Led
led_by bytes text = option_and_then led_at (cut bytes text)

-- a text, and the number that stands behind it, where one does
pub record Counted : Type 0 where
  pub text : List ℕ
  pub number : Option ℕ

abbrev pub uncounted : List ℕ → Counted
uncounted text = record { text = text; number = None }

abbrev pub counted_if : List ℕ → List ℕ → ℕ → List ℕ → Counted
counted_if whole text n [] = record { text = text; number = Some n }
counted_if whole text n (b ∷ rest) = uncounted whole

abbrev pub counted_with : List ℕ → List ℕ → Led → Counted
counted_with whole text a = counted_if whole text a.number a.rest

abbrev pub counted_at : List ℕ → List ℕ → Parts → Counted
counted_at bytes whole p = if_some (led_by bytes p.1) (counted_with whole p.0) (uncounted whole)

-- a text with ` [N` and these bytes behind it, where it ends so
abbrev pub counted : List ℕ → List ℕ → Counted
counted bytes text = if_some (cut_last (codes " [") text) (counted_at bytes text) (uncounted text)

-- how many decimal digits stand first
abbrev pub digits_first : List ℕ → ℕ
digits_first [] = 0
digits_first (b ∷ bs) = if is_ascii_digit b then digits_first bs + 1 else 0

-- the number of 32 bits that stands first, and what stands behind it and these bytes
abbrev pub led_first : List ℕ → List ℕ → Option Led
led_first bytes text =
    option_and_then (λ rest. option_map (led_with rest) (number_32 (take (digits_first text) text))) (after bytes (drop (digits_first text) text))

-- the box of a call and its caller behind it, where the words between two calls stand first
abbrev pub box_first : List ℕ → Option Led
box_first text = option_and_then (led_first (codes ") called by ")) (after (codes " (box ") text)

-- the same outside quotes
abbrev pub box_outside : Quote → List ℕ → Option Led
box_outside Outside text = box_first text
box_outside Inside text = None
box_outside Escaped text = None
box_outside Hexadecimal text = None

-- a call, its box and its caller
pub record Boxed : Type 0 where
  pub front : List ℕ
  pub led : Led

abbrev pub boxed_here : Led → Boxed
boxed_here a = record { front = []; led = a }

abbrev pub boxed_behind : ℕ → Boxed → Boxed
boxed_behind b p = record { front = b ∷ p.front; led = p.led }

-- the parts of a text, where the words between two calls first stand outside quotes
abbrev pub boxed_in : Quote → List ℕ → Option Boxed
boxed_in quote [] = None
boxed_in quote (b ∷ text) =
    option_or (option_map boxed_here (box_outside quote (b ∷ text))) (option_map (boxed_behind b) (boxed_in (quote_after quote b) text))

-- a space, a comma, a bar or an opening bracket outside quotes: the text's last word begins anew behind it
abbrev pub parts_words : Quote → ℕ → Bool
parts_words Outside b = b == 32 || (b == 40 || (b == 44 || (b == 91 || (b == 123 || b == 124))))
parts_words Inside b = false
parts_words Escaped b = false
parts_words Hexadecimal b = false

-- the last word of a text with this byte more, of which the last word was this
abbrev pub word_after : Quote → List ℕ → ℕ → List ℕ
word_after quote word b = if parts_words quote b then [] else word ++ b ∷ []

-- the box of a call and its caller outside quotes, where the word before them passes a test
abbrev pub box_where : (List ℕ → Bool) → Quote → List ℕ → List ℕ → Option Led
box_where test quote word text = if test word then box_outside quote text else None

-- the parts of a text, where the words between two calls first stand outside quotes behind such a word
abbrev pub boxed_where : (List ℕ → Bool) → Quote → List ℕ → List ℕ → Option Boxed
boxed_where test quote word [] = None
boxed_where test quote word (b ∷ text) =
    option_or (option_map boxed_here (box_where test quote word (b ∷ text)))
    (option_map (boxed_behind b) (boxed_where test (quote_after quote b) (word_after quote word b) text))

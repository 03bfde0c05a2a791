-- What the parts of the scanner say, about a text and places in it.
use Rattle.std.specs.Prelude.{◌≡◌, ℕ, ◌<◌, ◌≤◌, ◌+◌, List, [], ◌∷◌, ◌++◌, encode_utf8, length, slice_index, slice_range, take, drop, true, false}
use Rattle.std.specs.Char.{IsScalar}
use Rattle.apd_token.specs.Bytes.{in_set, escape_of}
use Rattle.apd_token.specs.Quotes.{IsDigits, numeral, CodeOf, IsElement, Element, AreElements, spelling, meaning, NoElement}
use Rattle.apd_token.specs.declared.quoted.ElementValue.{ElementValue}
use Rattle.apd_token.specs.declared.quoted.ElementValue.TheVariants as values
use Rattle.apd_token.specs.Grammar.{Begins, IsMarked, RadixForm, IsLead}
use Rattle.apd_token.specs.declared.bytes.Set.{Set}
use Rattle.apd_token.specs.declared.bytes.Set.TheVariants as sets
use Rattle.apd_token.specs.declared.found.Found.{Found}

-- a run of the set stops before these bytes
abbrev pub StopsRun : Set → List ℕ → Type 0
StopsRun set [] = Unit {0}
StopsRun set (b ∷ bs) = in_set set b ≡ false

-- no `*/` stands whole between the places
abbrev pub NoCloseBelow : List ℕ → ℕ → ℕ → Type 0
NoCloseBelow text from upto = (k : ℕ) → from ≤ k → k + 1 < upto → slice_index text k ≡ 42 → slice_index text (k + 1) ≡ 47 → ⊥

-- the first `*/`
pub record IsFirstClose (text : List ℕ) (from k : ℕ) : Type 0 where
  pub beyond : from ≤ k
  pub within : k + 1 < length text
  pub star : slice_index text k ≡ 42
  pub slash : slice_index text (k + 1) ≡ 47
  pub first : NoCloseBelow text from (k + 1)

-- the text from at to upto is a piece
pub record Scans (text : List ℕ) (at : ℕ) (w : Found) (upto : ℕ) : Type 0 where
  pub beyond : at < upto
  pub within : upto ≤ length text
  pub begins : Begins at w (slice_range text at upto) (drop upto text) (drop at text)

-- a full stop and a digit stand there
pub record HasFraction (text : List ℕ) (at : ℕ) : Type 0 where
  pub room : at + 1 < length text
  pub point : slice_index text at ≡ 46
  pub digit : in_set sets.Digits (slice_index text (at + 1)) ≡ true

-- digits from a place on, a backslash behind them, and the number that they and the bytes from first on stand for
pub record HasDigits (text : List ℕ) (first from radix : ℕ) (set : Set) (upto code : ℕ) : Type 0 where
  pub within : upto ≤ length text
  pub digits : List ℕ
  pub count : upto ≡ from + length digits + 1
  pub are : IsDigits set (slice_range text from upto) digits
  pub value : code ≡ numeral radix (slice_range text first from ++ digits)
  pub scalar : IsScalar code

abbrev pub NoDigits : List ℕ → ℕ → ℕ → ℕ → Set → Type 0
NoDigits text first from radix set = (bytes digits rest : List ℕ) → IsDigits set bytes digits → drop from text ≡ bytes ++ rest
    → IsScalar (numeral radix (slice_range text first from ++ digits)) → ⊥

-- the escape at a place, behind its backslash
pub record HasCode (text : List ℕ) (at upto code : ℕ) : Type 0 where
  pub beyond : at < upto
  pub within : upto ≤ length text
  pub is_code : CodeOf (escape_of (slice_index text at)) (slice_index text at) (slice_range text (at + 1) upto) code

abbrev pub NoCode : List ℕ → ℕ → Type 0
NoCode text at = (bytes rest : List ℕ) (code : ℕ) → CodeOf (escape_of (slice_index text at)) (slice_index text at) bytes code → drop (at + 1) text ≡ bytes ++ rest → ⊥

-- the element at a place
pub record HasElement (text : List ℕ) (at q upto : ℕ) (value : List ℕ) : Type 0 where
  pub beyond : at < upto
  pub within : upto ≤ length text
  pub is_element : IsElement q (slice_range text at upto) value

abbrev pub value_of : ElementValue → List ℕ
value_of values.Nothing = []
value_of (values.Byte b) = b ∷ []
value_of (values.Char c) = encode_utf8 c

-- the elements between the opening quote and a place
pub record InBody (xs : List ℕ) (from at q : ℕ) (out : List ℕ) : Type 0 where
  pub beyond : from ≤ at
  pub within : at ≤ length xs
  pub elements : List Element
  pub each : AreElements q elements
  pub spelled : slice_range xs from at ≡ spelling elements
  pub means : out ≡ meaning elements

-- the value is what the elements behind the quote at a place stand for, up to where none stands
abbrev pub Unquotes : List ℕ → ℕ → List ℕ → Type 0
Unquotes text at value = (i : ℕ) × InBody text (at + 1) i (slice_index text at) value × NoElement (slice_index text at) (drop i text)

-- no marked number begins the text
pub record NoMarked (at : ℕ) (text : List ℕ) : Type 0 where
  pub none : (v : Found) (bytes rest : List ℕ) → text ≡ bytes ++ rest → IsMarked at v bytes rest → ⊥

-- digits of a radix behind a 0 and a mark
pub record HasRadix (text : List ℕ) (at radix : ℕ) (set : Set) (w : Found) (upto : ℕ) : Type 0 where
  pub beyond : at + 2 < upto
  pub within : upto ≤ length text
  pub form : RadixForm radix set at w (slice_range text (at + 2) upto)
  pub stops : StopsRun set (drop upto text)

-- the character at a place
pub record HasChar (text : List ℕ) (at c upto : ℕ) : Type 0 where
  pub beyond : at < upto
  pub within : upto ≤ length text
  pub spelled : slice_range text at upto ≡ encode_utf8 c

-- where the lead ends
pub record HasLead (text : List ℕ) (upto : ℕ) : Type 0 where
  pub within : upto ≤ length text
  pub lead : IsLead (take upto text) (drop upto text)

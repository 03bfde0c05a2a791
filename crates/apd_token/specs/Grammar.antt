-- What a text is divided into.
use Rattle.std.specs.Prelude.{◌≡◌, ◌==◌, ℕ, ◌<◌, ◌≤◌, ◌+◌, ◌^◌, List, [], ◌∷◌, ◌++◌, length, if◌then◌else◌, nat_le, Bool, true, false, ◌⊎◌, encode_utf8, IsUtf8, Contains}
use Rattle.std.specs.Str.{IsValidUpTo}
use Rattle.apd_token.specs.Bytes.{class_of, bracket_of, in_set, is_layout, escape_of, mark_of}
use Rattle.apd_token.specs.Quotes.{AllIn, CodeOf, numeral, Element, AreElements, spelling, meaning, NoElement}
use Rattle.apd_token.specs.declared.bytes.NumberMark.{NumberMark}
use Rattle.apd_token.specs.declared.bytes.NumberMark.TheVariants as marks
use Rattle.apd_token.specs.declared.bytes.Class.{Class}
use Rattle.apd_token.specs.declared.bytes.Class.TheVariants as classes
use Rattle.apd_token.specs.declared.bytes.Set.{Set}
use Rattle.apd_token.specs.declared.bytes.Set.TheVariants as sets
use Rattle.apd_token.specs.declared.items.TokenKind.{TokenKind}
use Rattle.apd_token.specs.declared.items.TokenKind.TheVariants.{Name, Quoted, Codes, Variable, Integer, End}
use Rattle.apd_token.specs.declared.items.Token.{Token}
use Rattle.apd_causes.specs.declared.faults.TokenFault.{TokenFault}
use Rattle.apd_causes.specs.declared.faults.TokenFault.TheVariants as faults
use Rattle.apd_token.specs.declared.found.Found.{Found}
use Rattle.apd_token.specs.declared.found.Found.TheVariants.{Passed, Item, Bad}

-- `*/` stands nowhere in the bytes
abbrev pub HasNoClose : List ℕ → Type 0
HasNoClose bs = (before after : List ℕ) → bs ≡ before ++ 42 ∷ 47 ∷ after → ⊥

-- `/*` to the next `*/`
pub record IsComment (bytes : List ℕ) : Type 0 where
  pub body : List ℕ
  pub spelled : bytes ≡ 47 ∷ 42 ∷ (body ++ 42 ∷ 47 ∷ [])
  pub first : HasNoClose (body ++ 42 ∷ [])

-- `/*` and no `*/` up to the end of the text
pub record IsOpenComment (bytes after : List ℕ) : Type 0 where
  pub body : List ℕ
  pub spelled : bytes ≡ 47 ∷ 42 ∷ body
  pub open_to_end : HasNoClose body
  pub at_end : after ≡ []

-- layout, a line comment or nothing follows
abbrev pub Separates : List ℕ → Type 0
Separates [] = Unit {0}
Separates (b ∷ bs) = (is_layout b ≡ true) ⊎ (b ≡ 37)

-- the full stop that ends a clause
abbrev pub IsEnd : List ℕ → List ℕ → Type 0
IsEnd bytes after = (bytes ≡ 46 ∷ []) × Separates after

abbrev pub BeginsComment : List ℕ → Type 0
BeginsComment bytes = (more : List ℕ) × (bytes ≡ 47 ∷ 42 ∷ more)

-- graphic characters that begin no comment and are no end
pub record IsGraphicName (bytes after : List ℕ) : Type 0 where
  pub graphic : AllIn sets.Symbols bytes
  pub no_comment : BeginsComment bytes → ⊥
  pub no_end : IsEnd bytes after → ⊥

-- what begins with a graphic character
abbrev pub GraphicForm : ℕ → Found → List ℕ → List ℕ → Type 0
GraphicForm at Passed bytes after = IsComment bytes
GraphicForm at (Item k) bytes after = ((k ≡ Name) × IsGraphicName bytes after) ⊎ ((k ≡ End) × IsEnd bytes after)
GraphicForm at (Bad f) bytes after = (f ≡ faults.OpenComment at) × IsOpenComment bytes after

-- the number that decimal digits stand for
abbrev pub decimal : List ℕ → ℕ
decimal ds = numeral 10 ds

-- an integer of at most 2 ^ 63, or a fault
abbrev pub number : ℕ → ℕ → Found
number at n = if nat_le n (2 ^ 63) then Item (Integer n) else Bad (faults.NumberTooWide at)

-- digits, a full stop and a digit
pub record IsFloat (bytes : List ℕ) : Type 0 where
  pub whole : List ℕ
  pub digit : ℕ
  pub spelled : bytes ≡ whole ++ 46 ∷ digit ∷ []
  pub digits : AllIn sets.Digits whole
  pub is_digit : in_set sets.Digits digit ≡ true
  pub narrow : decimal whole ≤ 2 ^ 63

-- decimal digits, or a float
abbrev pub DigitForm : ℕ → Found → List ℕ → Type 0
DigitForm at w bytes = (AllIn sets.Digits bytes × (w ≡ number at (decimal bytes))) ⊎ (IsFloat bytes × (w ≡ Bad (faults.FloatLiteral at)))

-- what follows doesn't begin with the quote
abbrev pub NotNext : ℕ → List ℕ → Type 0
NotNext q [] = Unit {0}
NotNext q (b ∷ bs) = b ≡ q → ⊥

-- what follows begins no escape that stands for a character
abbrev pub NoCodeIn : List ℕ → Type 0
NoCodeIn after = (e : ℕ) (bytes rest : List ℕ) (code : ℕ) → after ≡ e ∷ (bytes ++ rest) → CodeOf (escape_of e) e bytes code → ⊥

-- One character behind `0'`, whose first byte c is a backslash or not and a quote or not, and its code, or a fault at c.
abbrev pub CharOf : Bool → Bool → ℕ → Found → ℕ → List ℕ → List ℕ → Type 0
CharOf true same at w c [] after = NoCodeIn after × (w ≡ Bad (faults.BadEscape (at + 2)))
CharOf true same at w c (e ∷ cs) after = (code : ℕ) × CodeOf (escape_of e) e cs code × (w ≡ Item (Integer code))
CharOf false true at w c [] after = NotNext 39 after × (w ≡ Bad (faults.BadEscape (at + 2)))
CharOf false true at w c (d ∷ cs) after = (d ≡ 39) × (cs ≡ []) × (w ≡ Item (Integer 39))
CharOf false false at w c cs after = (code : ℕ) × (c ∷ cs ≡ encode_utf8 code) × (w ≡ Item (Integer code))

abbrev pub CharForm : ℕ → Found → List ℕ → List ℕ → Type 0
CharForm at w [] after = (after ≡ []) × (w ≡ Bad (faults.OpenQuote at))
CharForm at w (c ∷ cs) after = CharOf (c == 92) (c == 39) at w c cs after

abbrev pub RadixForm : ℕ → Set → ℕ → Found → List ℕ → Type 0
RadixForm radix set at w digits = (0 < length digits) × AllIn set digits × (w ≡ number at (numeral radix digits))

-- what stands behind a 0 and a mark
abbrev pub MarkedForm : NumberMark → ℕ → Found → List ℕ → List ℕ → Type 0
MarkedForm marks.Hex at w bytes after = RadixForm 16 sets.Hex at w bytes
MarkedForm marks.Octal at w bytes after = RadixForm 8 sets.Octal at w bytes
MarkedForm marks.Binary at w bytes after = RadixForm 2 sets.Binary at w bytes
MarkedForm marks.Code at w bytes after = CharForm at w bytes after
MarkedForm marks.Nothing at w bytes after = ⊥

pub record IsMarked (at : ℕ) (w : Found) (bytes after : List ℕ) : Type 0 where
  pub mark : ℕ
  pub rest : List ℕ
  pub spelled : bytes ≡ 48 ∷ mark ∷ rest
  pub form : MarkedForm (mark_of mark) at w rest after

abbrev pub NumberForm : ℕ → Found → List ℕ → List ℕ → Type 0
NumberForm at w bytes after = DigitForm at w bytes ⊎ IsMarked at w bytes after

abbrev pub quoted_kind : ℕ → TokenKind
quoted_kind q = if q == 39 then Quoted else Codes

-- Where the elements between quotes q stop: the closing quote, the end of the text, or a backslash that begins no escape, at a place.
abbrev pub StopOf : ℕ → ℕ → Found → ℕ → List ℕ → List ℕ → Type 0
StopOf at place w q [] after = (after ≡ []) × (w ≡ Bad (faults.OpenQuote at))
StopOf at place w q (c ∷ more) after = (more ≡ []) × (
    ((c ≡ q) × NotNext q after × (w ≡ Item (quoted_kind q)))
    ⊎ ((c ≡ 92) × NoElement q (92 ∷ after) × (w ≡ Bad (faults.BadEscape place))))

-- what stands behind the opening quote q
pub record QuoteForm (at : ℕ) (w : Found) (q : ℕ) (bytes after : List ℕ) : Type 0 where
  pub elements : List Element
  pub stop : List ℕ
  pub each : AreElements q elements
  pub spelled : bytes ≡ spelling elements ++ stop
  pub stops : StopOf at (at + 1 + length (spelling elements)) w q stop after

-- By the class of the first byte b, what b and the bytes bs may be as a piece at the place at, where after follows.
abbrev pub FormOf : Class → ℕ → Found → ℕ → List ℕ → List ℕ → Type 0
FormOf classes.Layout at w b bs after = (w ≡ Passed) × (bs ≡ [])
FormOf classes.Percent at w b bs after = (w ≡ Passed) × AllIn sets.Line bs
FormOf classes.Small at w b bs after = (w ≡ Item Name) × AllIn sets.Word bs
FormOf classes.Capital at w b bs after = (w ≡ Item Variable) × AllIn sets.Word bs
FormOf classes.Solo at w b bs after = (w ≡ Item Name) × (bs ≡ [])
FormOf classes.Bracket at w b bs after = (w ≡ Item (bracket_of b)) × (bs ≡ [])
FormOf classes.Graphic at w b bs after = GraphicForm at w (b ∷ bs) after
FormOf classes.Digit at w b bs after = NumberForm at w (b ∷ bs) after
FormOf classes.Quote at w b bs after = QuoteForm at w b bs after
FormOf classes.Other at w b bs after = (w ≡ Bad (faults.BadChar at)) × (bs ≡ [])

-- the bytes are a piece of this form, or a fault
abbrev pub HasForm : ℕ → Found → List ℕ → List ℕ → Type 0
HasForm at w [] after = ⊥
HasForm at w (b ∷ bs) after = FormOf (class_of b) at w b bs after

-- no longer front of the text has a form
abbrev pub IsLongest : ℕ → List ℕ → List ℕ → Type 0
IsLongest at bytes after = (v : Found) (c : ℕ) (more rest : List ℕ) →
    after ≡ c ∷ (more ++ rest) → HasForm at v (bytes ++ c ∷ more) rest → ⊥

-- the text begins with the piece
pub record Begins (at : ℕ) (w : Found) (bytes after text : List ℕ) : Type 0 where
  pub spelled : text ≡ bytes ++ after
  pub form : HasForm at w bytes after
  pub longest : IsLongest at bytes after

pub record Piece : Type 0 where
  pub what : Found
  pub bytes : List ℕ

abbrev pub IsSound : Found → Type 0
IsSound Passed = Unit {0}
IsSound (Item k) = Unit {0}
IsSound (Bad f) = ⊥

-- The text is these pieces and a rest, each piece layout, a comment or an item, and the longest at its place.
abbrev pub Divides : ℕ → List Piece → List ℕ → List ℕ → Type 0
Divides at [] text rest = text ≡ rest
Divides at (p ∷ ps) text rest = (after : List ℕ) ×
    Begins at p.what p.bytes after text × IsSound p.what × Divides (at + length p.bytes) ps after rest

-- the place after the pieces
abbrev pub place_after : ℕ → List Piece → ℕ
place_after at [] = at
place_after at (p ∷ ps) = place_after (at + length p.bytes) ps

-- the token of a piece, if it is an item
abbrev pub token_of : ℕ → Bool → Piece → List Token
token_of at spaced p = elim p.what [
  | Passed ↦ []
  | Item k ↦ record { kind = k; start = at; «end» = at + length p.bytes; spaced = spaced } ∷ []
  | Bad f ↦ []
]

-- whether a token behind the piece is spaced
abbrev pub spaced_behind : Piece → Bool
spaced_behind p = elim p.what [ Passed ↦ true | Item k ↦ false | Bad f ↦ false ]

-- the tokens of the pieces
abbrev pub tokens_of : ℕ → Bool → List Piece → List Token
tokens_of at spaced [] = []
tokens_of at spaced (p ∷ ps) = token_of at spaced p ++ tokens_of (at + length p.bytes) (spaced_behind p) ps

abbrev pub BeginsScript : List ℕ → Type 0
BeginsScript text = (more : List ℕ) × (text ≡ 35 ∷ 33 ∷ more)

-- a newline or the end of the text
abbrev pub EndsLine : List ℕ → Type 0
EndsLine [] = Unit {0}
EndsLine (b ∷ bs) = b ≡ 10

-- what is passed over at the beginning: the first line of a text that begins with `#!`, and nothing of any other
pub record IsLead (front rest : List ℕ) : Type 0 where
  pub which : ((front ≡ []) × (BeginsScript rest → ⊥)) ⊎ ((more : List ℕ) × (front ≡ 35 ∷ 33 ∷ more) × AllIn sets.Line more × EndsLine rest)

-- what a text reads as: its tokens
pub record HasTokens (text : List ℕ) (ts : List Token) : Type 0 where
  pub front : List ℕ
  pub rest : List ℕ
  pub pieces : List Piece
  pub spelled : text ≡ front ++ rest
  pub lead : IsLead front rest
  pub divides : Divides (length front) pieces rest []
  pub tokens : ts ≡ tokens_of (length front) true pieces

-- or its first fault
pub record HasFault (text : List ℕ) (f : TokenFault) : Type 0 where
  pub front : List ℕ
  pub rest : List ℕ
  pub pieces : List Piece
  pub spelled : text ≡ front ++ rest
  pub lead : IsLead front rest
  pub left : List ℕ
  pub divides : Divides (length front) pieces rest left
  pub bytes : List ℕ
  pub after : List ℕ
  pub begins : Begins (place_after (length front) pieces) (Bad f) bytes after left

-- A fault is the one that the text has. Want of memory may come at any text.
abbrev pub IsFaultOf : List ℕ → TokenFault → Type 0
IsFaultOf text faults.Memory = Unit {0}
IsFaultOf text (faults.NotUtf8 place) = IsValidUpTo text place
IsFaultOf text f = IsUtf8 text × HasFault text f

-- the bytes of a quoted item stand for the value
pub record Stands (q : ℕ) (bytes value : List ℕ) : Type 0 where
  pub elements : List Element
  pub each : AreElements q elements
  pub spelled : bytes ≡ q ∷ (spelling elements ++ q ∷ [])
  pub means : value ≡ meaning elements

-- what the bytes of an item stand for
abbrev pub ContentOf : TokenKind → List ℕ → List ℕ → Type 0
ContentOf Name bytes value = value ≡ bytes
ContentOf Variable bytes value = value ≡ bytes
ContentOf Quoted bytes value = Stands 39 bytes value
ContentOf Codes bytes value = Stands 34 bytes value
ContentOf k bytes value = Unit {0}

-- the kinds that stand for characters
abbrev pub HasText : TokenKind → Type 0
HasText Name = Unit {0}
HasText Variable = Unit {0}
HasText Quoted = Unit {0}
HasText Codes = Unit {0}
HasText k = ⊥

abbrev pub IsTokenOf : List ℕ → Token → Type 0
IsTokenOf text t = (ts : List Token) × HasTokens text ts × Contains ts t

-- What the tokens of a clause stand for.
use Rattle.std.specs.Prelude.{◌≡◌, ◌==◌, ℕ, ◌+◌, ◌<◌, ◌⊎◌, Bool, true, false, List, [], ◌∷◌, ◌++◌, length, if◌then◌else◌}
use Rattle.std.specs.List.{slice_range}
use Rattle.std.specs.Str.{chars}
use Rattle.apd_term.specs.declared.term.NameId.{NameId}
use Rattle.apd_term.specs.Names.{number_of, with_name}
use Rattle.apd_token.specs.declared.items.TokenKind.{TokenKind}
use Rattle.apd_token.specs.declared.items.TokenKind.TheVariants as kinds
use Rattle.apd_token.specs.declared.items.Token.{Token}
use Rattle.apd_token.specs.Grammar.{ContentOf}
use Rattle.apd_read.specs.declared.lexeme.Sort.{Sort}
use Rattle.apd_read.specs.declared.lexeme.Sort.TheVariants as sorts
use Rattle.apd_read.specs.declared.lexeme.Lexeme.{Lexeme}

-- the id is the text's number among the names, which is their count where it isn't one of them
abbrev pub IsNameOf : List (List ℕ) → NameId → List ℕ → Type 0
IsNameOf names f v = f.0 ≡ number_of names v

-- `_` alone is a new variable each time
abbrev pub is_anonymous : List ℕ → Bool
is_anonymous [] = false
is_anonymous (b ∷ []) = b == 95
is_anonymous (b ∷ c ∷ bs) = false

-- the place of a variable among those that the clause has before, or their count where it is new
abbrev pub variable_place : List (List ℕ) → List ℕ → ℕ
variable_place vars v = if is_anonymous v then length vars else number_of vars v

-- the variables with this one
abbrev pub with_variable : List (List ℕ) → List ℕ → List (List ℕ)
with_variable vars v = if is_anonymous v then vars ++ v ∷ [] else with_name vars v

-- By its kind, what a token of these bytes stands for, with the variables before it and behind it.
abbrev pub IsSort : TokenKind → List (List ℕ) → List ℕ → List (List ℕ) → Sort → List (List ℕ) → Type 0
IsSort kinds.Name names bytes vars s after = (v : List ℕ) × (f : NameId) × ContentOf kinds.Name bytes v × IsNameOf names f v × (s ≡ sorts.Name f) × (after ≡ vars)
IsSort kinds.Quoted names bytes vars s after = (v : List ℕ) × (f : NameId) × ContentOf kinds.Quoted bytes v × IsNameOf names f v × (s ≡ sorts.Quoted f) × (after ≡ vars)
IsSort kinds.Codes names bytes vars s after = (v : List ℕ) × ContentOf kinds.Codes bytes v × (s ≡ sorts.Codes (chars v)) × (after ≡ vars)
IsSort kinds.Variable names bytes vars s after = (v : List ℕ) × ContentOf kinds.Variable bytes v × (s ≡ sorts.Variable (variable_place vars v + 1)) × (after ≡ with_variable vars v)
IsSort (kinds.Integer i) names bytes vars s after = (s ≡ sorts.Integer i) × (after ≡ vars)
IsSort kinds.Open names bytes vars s after = (s ≡ sorts.Open) × (after ≡ vars)
IsSort kinds.Close names bytes vars s after = (s ≡ sorts.Close) × (after ≡ vars)
IsSort kinds.OpenList names bytes vars s after = (s ≡ sorts.OpenList) × (after ≡ vars)
IsSort kinds.CloseList names bytes vars s after = (s ≡ sorts.CloseList) × (after ≡ vars)
IsSort kinds.OpenCurly names bytes vars s after = (s ≡ sorts.OpenCurly) × (after ≡ vars)
IsSort kinds.CloseCurly names bytes vars s after = (s ≡ sorts.CloseCurly) × (after ≡ vars)
IsSort kinds.Comma names bytes vars s after = (s ≡ sorts.Comma) × (after ≡ vars)
IsSort kinds.Bar names bytes vars s after = (s ≡ sorts.Bar) × (after ≡ vars)
IsSort kinds.End names bytes vars s after = (s ≡ sorts.End) × (after ≡ vars)

abbrev pub IsLexeme : List (List ℕ) → List ℕ → List (List ℕ) → Token → Lexeme → List (List ℕ) → Type 0
IsLexeme names text vars t l after = IsSort t.kind names (slice_range text t.start t.end) vars l.sort after × (l.spaced ≡ t.spaced) × (l.start ≡ t.start)

-- what the tokens of a text stand for under these names, from the left, and the variables behind them
pub data AreLexemes (names : List (List ℕ)) (text : List ℕ) : List Token → List Lexeme → List (List ℕ) → Type 0 where
  no_lexeme : AreLexemes names text [] [] []
  then_lexeme : {ts : List Token} {ls : List Lexeme} {vars : List (List ℕ)} (t : Token) (l : Lexeme) (after : List (List ℕ))
      → AreLexemes names text ts ls vars → IsLexeme names text vars t l after
      → AreLexemes names text (ts ++ t ∷ []) (ls ++ l ∷ []) after

abbrev pub ends_clause : TokenKind → Bool
ends_clause kinds.End = true
ends_clause _ = false

-- the tokens up to the first that ends a clause, and with it
abbrev pub to_end : List Token → List Token
to_end [] = []
to_end (t ∷ ts) = t ∷ (if ends_clause t.kind then [] else to_end ts)

-- a name that the lexeme stands for has a number below n
abbrev pub SortIsNamed : ℕ → Sort → Type 0
SortIsNamed n (sorts.Name f) = f.0 < n
SortIsNamed n (sorts.Quoted f) = f.0 < n
SortIsNamed n _ = Unit {0}

-- each name of the lexemes has one
abbrev pub LexemesAreNamed : ℕ → List Lexeme → Type 0
LexemesAreNamed n [] = Unit {0}
LexemesAreNamed n (l ∷ ls) = SortIsNamed n l.sort × LexemesAreNamed n ls

abbrev pub ends_sort : Sort → Bool
ends_sort sorts.End = true
ends_sort _ = false

-- none of the lexemes ends a clause
abbrev pub NoneEnd : List Lexeme → Type 0
NoneEnd [] = Unit {0}
NoneEnd (l ∷ ls) = (ends_sort l.sort ≡ false) × NoneEnd ls

-- only the last one may
abbrev pub EndsLast : List Lexeme → Type 0
EndsLast ls = NoneEnd ls ⊎ ((front : List Lexeme) × (l : Lexeme) × (ls ≡ front ++ l ∷ []) × NoneEnd front)

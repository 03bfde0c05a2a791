-- Names are numbered by their place in a list of texts, each of which stands in it once.
use Rattle.std.specs.Prelude.{ℕ, Bool, List, [], ◌∷◌, ◌++◌, if◌then◌else◌, nat_eq, slice_index_or, All, IsUtf8}
use Rattle.std.specs.List.{list_any, position_or_len, IsDistinct}
use Rattle.std.specs.Cmp.Lexicographic.{pointwise}
use Rattle.apd_term.specs.declared.term.NameId.{NameId}

-- whether two texts have the same bytes
abbrev pub same_text : List ℕ → List ℕ → Bool
same_text a b = pointwise nat_eq a b

-- whether the text is one of the names
abbrev pub is_name : List (List ℕ) → List ℕ → Bool
is_name names text = list_any (same_text text) names

-- the place of the text among the names, or their count where it isn't there
abbrev pub number_of : List (List ℕ) → List ℕ → ℕ
number_of names text = position_or_len (same_text text) names

-- the text of a name, and no byte where the number is no name's
abbrev pub text_of_name : List (List ℕ) → NameId → List ℕ
text_of_name names name = slice_index_or names name.0 []

-- the names with the text at their end, if it wasn't among them
abbrev pub with_name : List (List ℕ) → List ℕ → List (List ℕ)
with_name names text = if is_name names text then names else names ++ text ∷ []

-- no text stands among the names twice
abbrev pub HasDistinctTexts : List (List ℕ) → Type 0
HasDistinctTexts names = IsDistinct same_text names

-- each text is UTF-8
abbrev pub HasUtf8Texts : List (List ℕ) → Type 0
HasUtf8Texts names = All IsUtf8 names

-- How a name is written (ISO/IEC 13211-1 sections 6.4.2 and 7.10.5, with the project's choices).
use Rattle.std.specs.Prelude.{ℕ, ◌+◌, ◌/◌, ◌%◌, Bool, false, List, [], ◌∷◌, ◌++◌, codes, if◌then◌else◌, ◌&&◌, ◌||◌, not, ◌==◌, length, nat_eq, nat_lt}
use Rattle.std.specs.List.{list_all, flat_map, starts_with}
use Rattle.apd_term.specs.Names.{same_text}
use Rattle.apd_token.specs.Bytes.{is_small, is_word, is_graphic}

-- a small letter first, and only letters, digits and `_`
abbrev pub is_word_name : List ℕ → Bool
is_word_name [] = false
is_word_name (b ∷ bs) = is_small b && list_all is_word (b ∷ bs)

abbrev pub begins_comment : List ℕ → Bool
begins_comment bs = starts_with nat_eq bs (codes "/*")

-- graphic characters, not the full stop alone and not with the beginning of a comment
abbrev pub is_graphic_name : List ℕ → Bool
is_graphic_name bs = not (length bs == 0) && list_all is_graphic bs && not (same_text bs (codes ".")) && not (begins_comment bs)

abbrev pub is_solo_name : List ℕ → Bool
is_solo_name bs = same_text bs (codes "!") || same_text bs (codes ";")

abbrev pub is_bracket_name : List ℕ → Bool
is_bracket_name bs = same_text bs (codes "[]") || same_text bs (codes "{}")

-- one token without quotes stands for the name
abbrev pub is_bare : List ℕ → Bool
is_bare bs = is_word_name bs || is_graphic_name bs || is_solo_name bs

-- a hexadecimal digit in lower case
abbrev pub hex_digit : ℕ → ℕ
hex_digit d = if nat_lt d 10 then d + 48 else d + 87

-- `\xHH\`
abbrev pub hex_escape : ℕ → List ℕ
hex_escape b = codes "\\x" ++ hex_digit (b / 16) ∷ hex_digit (b % 16) ∷ codes "\\"

-- a byte between quotes
abbrev pub quoted_byte : ℕ → List ℕ
quoted_byte b =
    if b == 92 then codes "\\\\"
    else (if b == 39 then codes "\\'"
    else (if b == 10 then codes "\\n"
    else (if b == 9 then codes "\\t"
    else (if nat_lt b 32 || b == 127 then hex_escape b
    else b ∷ []))))

-- a name in single quotes
abbrev pub quoted : List ℕ → List ℕ
quoted bs = codes "'" ++ flat_map quoted_byte bs ++ codes "'"

-- a name before its arguments: the brackets `[]` and `{}` are quoted there
abbrev pub function_text : List ℕ → List ℕ
function_text bs = if is_bare bs then bs else quoted bs

-- a name
abbrev pub name_text : List ℕ → List ℕ
name_text bs = if is_bracket_name bs then bs else function_text bs

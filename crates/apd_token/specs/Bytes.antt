-- The kinds of byte that the grammar tells apart.
use Rattle.std.specs.Prelude.{ℕ, Bool, true, false, ◌==◌, ◌&&◌, ◌||◌, nat_le, if◌then◌else◌}
use Rattle.apd_token.specs.declared.bytes.Class.{Class}
use Rattle.apd_token.specs.declared.bytes.Class.TheVariants.{Layout, Small, Capital, Digit, Graphic, Solo, Bracket, Percent, Quote, Other}
use Rattle.apd_token.specs.declared.bytes.Set.{Set}
use Rattle.apd_token.specs.declared.bytes.Set.TheVariants as sets
use Rattle.apd_token.specs.declared.bytes.NumberMark.{NumberMark}
use Rattle.apd_token.specs.declared.bytes.NumberMark.TheVariants as marks
use Rattle.apd_token.specs.declared.bytes.Escape.{Escape}
use Rattle.apd_token.specs.declared.bytes.Escape.TheVariants.{Newline, Octal, Hex, Simple, Unknown}
use Rattle.apd_token.specs.declared.items.TokenKind.{TokenKind}
use Rattle.apd_token.specs.declared.items.TokenKind.TheVariants.{Open, Close, OpenList, CloseList, OpenCurly, CloseCurly, Comma, Bar}

-- space, and tab, newline, vertical tab, form feed and carriage return
abbrev pub is_layout : ℕ → Bool
is_layout b = (b == 32) || (nat_le 9 b && nat_le b 13)

abbrev pub is_small : ℕ → Bool
is_small b = nat_le 97 b && nat_le b 122

-- a capital letter or the underscore
abbrev pub is_capital : ℕ → Bool
is_capital b = (nat_le 65 b && nat_le b 90) || (b == 95)

abbrev pub is_digit : ℕ → Bool
is_digit b = nat_le 48 b && nat_le b 57

abbrev pub is_word : ℕ → Bool
is_word b = is_small b || is_capital b || is_digit b

-- # $ & * + - . / : < = > ? @ \ ^ ~
abbrev pub is_graphic : ℕ → Bool
is_graphic b =
    (nat_le 35 b && nat_le b 36) || (b == 38) || (nat_le 42 b && nat_le b 43) || (nat_le 45 b && nat_le b 47)
    || (b == 58) || (nat_le 60 b && nat_le b 64) || (b == 92) || (b == 94) || (b == 126)

-- ( ) , [ ] { | }
abbrev pub is_bracket : ℕ → Bool
is_bracket b = (nat_le 40 b && nat_le b 41) || (b == 44) || (b == 91) || (b == 93) || (nat_le 123 b && nat_le b 125)

abbrev pub class_of : ℕ → Class
class_of b =
    if is_layout b then Layout
    else (if is_small b then Small
    else (if is_capital b then Capital
    else (if is_digit b then Digit
    else (if is_graphic b then Graphic
    else (if is_bracket b then Bracket
    else (if b == 33 || b == 59 then Solo
    else (if b == 37 then Percent
    else (if b == 39 || b == 34 then Quote
    else Other))))))))

abbrev pub bracket_of : ℕ → TokenKind
bracket_of b =
    if b == 40 then Open
    else (if b == 41 then Close
    else (if b == 91 then OpenList
    else (if b == 93 then CloseList
    else (if b == 123 then OpenCurly
    else (if b == 125 then CloseCurly
    else (if b == 44 then Comma
    else Bar))))))

-- the sets of bytes that a run goes over
abbrev pub in_set : Set → ℕ → Bool
in_set sets.Word b = is_word b
in_set sets.Symbols b = is_graphic b
in_set sets.Digits b = is_digit b
in_set sets.Octal b = nat_le 48 b && nat_le b 55
in_set sets.Hex b = is_digit b || (nat_le 65 b && nat_le b 70) || (nat_le 97 b && nat_le b 102)
in_set sets.Binary b = nat_le 48 b && nat_le b 49
in_set sets.Line b = if b == 10 then false else true

-- a b t n v f r \ ' " `
abbrev pub is_simple : ℕ → Bool
is_simple b = (nat_le 97 b && nat_le b 98) || (b == 116) || (b == 110) || (b == 118) || (b == 102) || (b == 114) || (b == 92) || (b == 39) || (b == 34) || (b == 96)

-- the code of such a letter after a backslash
abbrev pub simple_code : ℕ → ℕ
simple_code b =
    if b == 97 then 7
    else (if b == 98 then 8
    else (if b == 116 then 9
    else (if b == 110 then 10
    else (if b == 118 then 11
    else (if b == 102 then 12
    else (if b == 114 then 13
    else b))))))

-- what a byte begins after a backslash
abbrev pub escape_of : ℕ → Escape
escape_of b =
    if b == 10 then Newline
    else (if nat_le 48 b && nat_le b 55 then Octal
    else (if b == 120 then Hex
    else (if is_simple b then Simple
    else Unknown)))

-- what a byte behind a 0 begins
abbrev pub mark_of : ℕ → NumberMark
mark_of b =
    if b == 120 then marks.Hex
    else (if b == 111 then marks.Octal
    else (if b == 98 then marks.Binary
    else (if b == 39 then marks.Code
    else marks.Nothing)))

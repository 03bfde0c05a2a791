-- The names that every list of names begins with.
use Rattle.std.specs.Prelude.{ℕ, List, [], ◌∷◌, ◌++◌, codes}

-- brackets and punctuation
abbrev pub punctuation : List (List ℕ)
punctuation =
    codes "[]" ∷
    codes "." ∷
    codes "{}" ∷
    codes "," ∷
    codes "|" ∷
    codes ":-" ∷
    codes "?-" ∷
    codes "-->" ∷ []

-- built-in goals
abbrev pub builtin_goals : List (List ℕ)
builtin_goals =
    codes "true" ∷
    codes "fail" ∷
    codes "=" ∷
    codes "is" ∷
    codes "=:=" ∷
    codes "=\\=" ∷
    codes "<" ∷
    codes "=<" ∷
    codes ">" ∷
    codes ">=" ∷ []

-- arithmetic operations
abbrev pub arithmetic : List (List ℕ)
arithmetic =
    codes "+" ∷
    codes "-" ∷
    codes "*" ∷
    codes "//" ∷
    codes "mod" ∷
    codes "rem" ∷
    codes "min" ∷
    codes "max" ∷
    codes "abs" ∷ []

-- operators that are none of these
abbrev pub other_operators : List (List ℕ)
other_operators =
    codes "dynamic" ∷
    codes "discontiguous" ∷
    codes "multifile" ∷
    codes "initialization" ∷
    codes ";" ∷
    codes "->" ∷
    codes "\\+" ∷
    codes "\\=" ∷
    codes "==" ∷
    codes "\\==" ∷
    codes "@<" ∷
    codes "@=<" ∷
    codes "@>" ∷
    codes "@>=" ∷
    codes "=.." ∷
    codes "/\\" ∷
    codes "\\/" ∷
    codes "/" ∷
    codes "<<" ∷
    codes ">>" ∷
    codes "**" ∷
    codes "^" ∷
    codes "\\" ∷ []

-- control
abbrev pub control_words : List (List ℕ)
control_words =
    codes "!" ∷
    codes "not" ∷ []

-- words of commands and replies
abbrev pub dialogue_words : List (List ℕ)
dialogue_words =
    codes "wrong" ∷
    codes "missing" ∷
    codes "loop" ∷
    codes "trace" ∷
    codes "off" ∷
    codes "all" ∷
    codes "leap" ∷
    codes "skip" ∷
    codes "known" ∷
    codes "quit" ∷
    codes "stop" ∷
    codes "yes" ∷
    codes "no" ∷
    codes "unknown" ∷ []

-- words of the oracle file
abbrev pub oracle_words : List (List ℕ)
oracle_words =
    codes "form" ∷
    codes "covers" ∷
    codes "below" ∷
    codes "trusted" ∷ []

-- kinds of operators, the postfix kinds included
abbrev pub operator_kinds : List (List ℕ)
operator_kinds =
    codes "op" ∷
    codes "xfx" ∷
    codes "xfy" ∷
    codes "yfx" ∷
    codes "fx" ∷
    codes "fy" ∷
    codes "xf" ∷
    codes "yf" ∷ []

-- comparison and tests of terms
abbrev pub tests : List (List ℕ)
tests =
    codes "compare" ∷
    codes "var" ∷
    codes "nonvar" ∷
    codes "atom" ∷
    codes "number" ∷
    codes "integer" ∷
    codes "float" ∷
    codes "atomic" ∷
    codes "compound" ∷
    codes "callable" ∷
    codes "is_list" ∷
    codes "ground" ∷ []

-- taking terms apart
abbrev pub taking_apart : List (List ℕ)
taking_apart =
    codes "functor" ∷
    codes "arg" ∷
    codes "copy_term" ∷
    codes "atom_codes" ∷
    codes "atom_chars" ∷
    codes "char_code" ∷
    codes "atom_length" ∷
    codes "atom_concat" ∷
    codes "sub_atom" ∷
    codes "number_codes" ∷
    codes "number_chars" ∷
    codes "atom_number" ∷ []

-- calling
abbrev pub calling : List (List ℕ)
calling =
    codes "call" ∷
    codes "once" ∷
    codes "ignore" ∷
    codes "forall" ∷
    codes "findall" ∷
    codes "bagof" ∷
    codes "setof" ∷
    codes "phrase" ∷ []

-- changing the program
abbrev pub changing : List (List ℕ)
changing =
    codes "assert" ∷
    codes "asserta" ∷
    codes "assertz" ∷
    codes "retract" ∷
    codes "retractall" ∷
    codes "abolish" ∷
    codes "consult" ∷ []

-- exceptions and ending
abbrev pub ending : List (List ℕ)
ending =
    codes "catch" ∷
    codes "throw" ∷
    codes "halt" ∷ []

-- input and output
abbrev pub input_output : List (List ℕ)
input_output =
    codes "write" ∷
    codes "writeln" ∷
    codes "writeq" ∷
    codes "print" ∷
    codes "nl" ∷
    codes "tab" ∷
    codes "put_char" ∷
    codes "get_char" ∷
    codes "read" ∷
    codes "format" ∷
    codes "open" ∷
    codes "close" ∷ []

-- all of them, each once, in the order of their numbers
unfoldable pub standard_names : List (List ℕ)
standard_names = punctuation ++ builtin_goals ++ arithmetic ++ other_operators ++ control_words ++ dialogue_words ++ oracle_words ++ operator_kinds ++ tests ++ taking_apart ++ calling ++ changing ++ ending ++ input_output

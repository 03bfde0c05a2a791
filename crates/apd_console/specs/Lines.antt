-- The lines that are heard of an input, as a function of its bytes.
use Rattle.std.specs.Prelude.{ℕ, List, [], ◌∷◌, length, take, map, true, false, if◌then◌else◌, nat_le, nat_lt, nat_eq, ⊤, ◌≡◌}
use Rattle.std.specs.List.{list_any}
use Rattle.apd_console.specs.declared.line.Line.{Line}
use Rattle.apd_console.specs.declared.line.Line.TheVariants.{Text, TooLong}
use Rattle.apd_base.specs.declared.limits.TheConstants.{MAX_LINE}

-- how the input ends: at its end, or with a read that fails
pub data InputEnd : Type 0 where
  Ended : InputEnd
  Fails : InputEnd

-- what comes after the last line: the input's end, a fault, or the limit of what is taken
pub data Close : Type 0 where
  AtEnd : Close
  AtFault : Close
  AtLimit : Close

-- a byte before the first of some lines; where there is none it is a line of its own
abbrev pub onto_first : ℕ → List (List ℕ) → List (List ℕ)
onto_first b [] = (b ∷ []) ∷ []
onto_first b (line ∷ lines) = (b ∷ line) ∷ lines

-- the same; where there is no line it belongs to none
abbrev pub onto_whole : ℕ → List (List ℕ) → List (List ℕ)
onto_whole b [] = []
onto_whole b (line ∷ lines) = (b ∷ line) ∷ lines

-- the lines of a text, of which the last may lack its newline
abbrev pub lines_of : List ℕ → List (List ℕ)
lines_of [] = []
lines_of (b ∷ bytes) = if nat_eq b 10 then [] ∷ lines_of bytes else onto_first b (lines_of bytes)

-- the lines that a newline ends
abbrev pub whole_lines_of : List ℕ → List (List ℕ)
whole_lines_of [] = []
whole_lines_of (b ∷ bytes) = if nat_eq b 10 then [] ∷ whole_lines_of bytes else onto_whole b (whole_lines_of bytes)

-- a line as it is heard
abbrev pub seen : List ℕ → Line
seen line = if nat_lt MAX_LINE (length line) then TooLong else Text line

-- the lines that are heard, and what comes then
pub record Heard : Type 0 where
  pub lines : List Line
  pub close : Close

-- what is heard of an input that is taken whole: a fault leaves out the line that it cuts off
abbrev pub hear_all : List ℕ → InputEnd → Heard
hear_all input Ended = record { lines = map seen (lines_of input); close = AtEnd }
hear_all input Fails = record { lines = map seen (whole_lines_of input); close = AtFault }

-- what is heard of an input of which no more than `room` bytes may be taken: where it has as many,
-- another byte is needed to know that it ends
unfoldable pub hear : ℕ → List ℕ → InputEnd → Heard
hear room input ends =
    if nat_le room (length input)
    then record { lines = map seen (whole_lines_of (take room input)); close = AtLimit }
    else hear_all input ends

-- a line before those that are heard
abbrev pub heard_onto : Line → Heard → Heard
heard_onto line heard = record { lines = line ∷ heard.lines; close = heard.close }

-- some byte ends a line
abbrev pub HasNewline : List ℕ → Type 0
HasNewline bytes = list_any (λ b. nat_eq b 10) bytes ≡ true

-- no byte ends a line
abbrev pub NoNewline : List ℕ → Type 0
NoNewline [] = ⊤
NoNewline (b ∷ bytes) = (nat_eq b 10 ≡ false) × NoNewline bytes

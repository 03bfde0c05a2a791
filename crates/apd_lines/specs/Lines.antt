-- What is read of a line: no clause, or the one that it holds.
use Rattle.std.specs.Prelude.{ℕ, ◌+◌, ◌*◌, ◌<◌, ◌≤◌, ◌≡◌, List, [], ◌∷◌, length, slice_get, Option, None, Some, Result, Ok, Err}
use Rattle.apd_term.specs.Growth.{GrowsBy}
use Rattle.apd_term.specs.Named.{IsNamed}
use Rattle.apd_term.specs.StandardNames.{standard_names}
use Rattle.apd_term.specs.Term.{Term, size}
use Rattle.apd_causes.specs.Faults.{CauseIsNamed}
use Rattle.apd_causes.specs.declared.faults.LoadCause.TheVariants as causes
use Rattle.apd_causes.specs.declared.faults.ReadFault.{ReadFault}
use Rattle.apd_causes.specs.declared.faults.ReadFault.TheVariants.{Stray}
use Rattle.apd_causes.specs.declared.faults.TokenFault.{TokenFault}
use Rattle.apd_causes.specs.declared.reading.Read.{Read}
use Rattle.apd_token.specs.declared.items.Token.{Token}
use Rattle.apd_ops.specs.Table.{Table}
use Rattle.apd_read.specs.Reader.{Reader}
use Rattle.apd_console.specs.declared.line.Line.{Line}
use Rattle.apd_console.specs.declared.line.Line.TheVariants.{Text, TooLong}
use Rattle.apd_lines.specs.declared.lines.LineRead.{LineRead}
use Rattle.apd_lines.specs.declared.lines.LineRead.TheVariants as lines
use Rattle.apd_base.specs.declared.limits.TheConstants.{MAX_LINE, MOST_NAMES}

-- a token behind the clause is stray
abbrev pub whole_line : Read → Option Token → LineRead
whole_line r None = lines.Clause r
whole_line r (Some t) = lines.Bad (causes.Read (Stray t.start))

abbrev pub line_of : List Token → Result Read ReadFault → LineRead
line_of tokens (Err fault) = lines.Bad (causes.Read fault)
line_of tokens (Ok r) = whole_line r (slice_get tokens r.next)

-- a line without a token holds no clause
abbrev pub line_from : {names : List (List ℕ)} → Reader names → Table → List ℕ → Result (List Token) TokenFault → LineRead
line_from reader ops line (Err fault) = lines.Bad (causes.Token fault)
line_from reader ops line (Ok []) = lines.Empty
line_from reader ops line (Ok (t ∷ tokens)) = line_of (t ∷ tokens) (reader.clause ops line (t ∷ tokens) 0)

-- what is read of a line
unfoldable pub line_in : {names : List (List ℕ)} → Reader names → Table → Line → LineRead
line_in reader ops TooLong = lines.TooLong
line_in reader ops (Text line) = line_from reader ops line (reader.division line)

-- a line that is read is short, and with its bytes there are fewer names than may be kept
abbrev pub LineFits : ℕ → Line → Type 0
LineFits count TooLong = Unit {0}
LineFits count (Text bytes) = (count + length bytes < MOST_NAMES) × (length bytes ≤ MAX_LINE)

-- the names grew at their end, by at most as many as the line has bytes
abbrev pub LineGrows : Line → List (List ℕ) → List (List ℕ) → Type 0
LineGrows TooLong names later = later ≡ names
LineGrows (Text bytes) names later = GrowsBy (length bytes) names later

-- a term that was read from a line: it is short, and its names and the standard ones are among the first n
pub record IsOfLine (n : ℕ) (t : Term) : Type 0 where
  pub standard : length standard_names ≤ n
  pub named : IsNamed n t
  pub short : size t ≤ 2 * MAX_LINE

-- the names of what was read are among the first n
abbrev pub LineIsNamed : ℕ → LineRead → Type 0
LineIsNamed n lines.Empty = Unit {0}
LineIsNamed n lines.TooLong = Unit {0}
LineIsNamed n (lines.Bad cause) = CauseIsNamed n cause
LineIsNamed n (lines.Clause r) = IsOfLine n r.term

-- a term that was read from a text of so many bytes: its names and the standard ones are among the first n, and it has at most twice as
-- many symbols
pub record IsReadOf (n bytes : ℕ) (t : Term) : Type 0 where
  pub standard : length standard_names ≤ n
  pub named : IsNamed n t
  pub short : size t ≤ 2 * bytes

-- the names of what was read of such a text are among the first n
abbrev pub LineIsReadOf : ℕ → ℕ → LineRead → Type 0
LineIsReadOf n bytes lines.Empty = Unit {0}
LineIsReadOf n bytes lines.TooLong = Unit {0}
LineIsReadOf n bytes (lines.Bad cause) = CauseIsNamed n cause
LineIsReadOf n bytes (lines.Clause r) = IsReadOf n bytes r.term

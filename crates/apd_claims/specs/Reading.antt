-- What a text reads as, which is all of one clause.
use Rattle.std.specs.Prelude.{ℕ, ◌++◌, nat_le, codes, if◌then◌else◌, List, length, Option, None, Some}
use Rattle.std.specs.Option.{option_map}
use Rattle.apd_base.specs.declared.limits.TheConstants.{MAX_FILE}
use Rattle.apd_term.specs.Term.{Term}
use Rattle.apd_causes.specs.declared.reading.Read.{Read}
use Rattle.apd_ops.specs.Table.{Table}
use Rattle.apd_read.specs.Reader.{Reader}
use Rattle.apd_lines.specs.Lines.{line_from}
use Rattle.apd_lines.specs.declared.lines.LineRead.{LineRead}
use Rattle.apd_lines.specs.declared.lines.LineRead.TheVariants as lines

-- the text as a clause
abbrev pub as_clause : List ℕ → List ℕ
as_clause text = text ++ codes " ."

abbrev pub read_of : LineRead → Option Read
read_of (lines.Clause r) = Some r
read_of lines.Empty = None
read_of lines.TooLong = None
read_of (lines.Bad cause) = None

module _ {names : List (List ℕ)} (reader : Reader names) (ops : Table) where
  -- what a text reads as; one that is longer than a file may be isn't read
  abbrev pub reading : List ℕ → Option Read
  reading text = if nat_le (length text) MAX_FILE then read_of (line_from reader ops text (reader.division text)) else None

  -- the term that a text is
  abbrev pub term_in : List ℕ → Option Term
  term_in text = option_map (λ (r : Read). r.term) (reading (as_clause text))

-- A text of clauses, each in a line of its own.
use Rattle.std.specs.Prelude.{◌≡◌, ℕ, ◌+◌, ◌<◌, ◌≤◌, List, [], ◌∷◌, ◌++◌, codes, flat_map, length, Ok}
use Rattle.apd_causes.specs.declared.reading.Read.{Read}
use Rattle.apd_ops.specs.declared.op.TheConstants.{ARGUMENT_PRIORITY, MOST_PRIORITY}
use Rattle.apd_ops.specs.Table.{Table}
use Rattle.apd_read.specs.declared.phrase.TheConstants.{TOO_MANY_LEVELS}
use Rattle.apd_read.specs.Reader.{IsRead}
use Rattle.apd_term.specs.Term.{Term}
use Rattle.apd_term.specs.declared.term.NameId.{NameId}
use Rattle.apd_token.specs.Division.{IsDivided}
use Rattle.apd_token.specs.declared.items.Token.{Token}
use Rattle.apd_write.specs.Writing.{written}
use Rattle.apd_reading_back.specs.Law.{IsReadable, IsWritable}
use Rattle.apd_reading_back.specs.Levels.{levels}
use Rattle.apd_reading_back.specs.Queries.{call_term, call_text}

-- a clause without its end, and the term that it is to be read as
pub record Line : Type 0 where
  pub text : List ℕ
  pub term : Term

-- a term as a clause is written, or a name with one argument in parentheses
pub data IsWritten (ops : Table) (names : List (List ℕ)) : Line → Type 0 where
  as_clause : (t : Term) → IsReadable ops names t → IsWritten ops names record { text = written ops names t MOST_PRIORITY; term = t }
  as_call : (f : NameId) (t : Term) → f.0 < length names → IsWritable names t → levels ops t ARGUMENT_PRIORITY + 1 < TOO_MANY_LEVELS
      → IsWritten ops names record { text = call_text ops names f t; term = call_term f t }

abbrev pub AreWritten : Table → List (List ℕ) → List Line → Type 0
AreWritten ops names [] = Unit {0}
AreWritten ops names (l ∷ ls) = IsWritten ops names l × AreWritten ops names ls

-- each line with a space, a full stop and a newline at its end
abbrev pub lines_text : List Line → List ℕ
lines_text ls = flat_map (λ (l : Line). l.text ++ codes " .\n") ls

-- from a token on, clause by clause, the tokens of the text read as these terms, and then no token is left
abbrev pub ReadInTurn : Table → List (List ℕ) → List ℕ → List Token → ℕ → List Term → Type 0
ReadInTurn ops names text tokens at [] = at ≡ length tokens
ReadInTurn ops names text tokens at (t ∷ ts) =
    (r : Read) × IsRead ops names text tokens at (Ok r) × (r.term ≡ t) × (at < r.next) × (r.next ≤ length tokens) × ReadInTurn ops names text tokens r.next ts

-- the text has tokens, which read as these terms in turn, whatever names come later
pub record ReadsInTurn (ops : Table) (names : List (List ℕ)) (text : List ℕ) (ts : List Term) : Type 0 where
  pub tokens : List Token
  pub divided : IsDivided text (Ok tokens)
  pub reading : (later : List (List ℕ)) → ReadInTurn ops (names ++ later) text tokens 0 ts

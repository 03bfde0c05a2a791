-- What an oracle file states: its statements, clause by clause.
use Rattle.std.specs.Prelude.{ℕ, List, length, nat_lt, Option, None, Some, Result, Ok, Err, if◌then◌else◌}
use Rattle.std.proofs.Common.{zero, suc}
use Rattle.apd_causes.specs.declared.reading.Read.{Read}
use Rattle.apd_causes.specs.declared.faults.OracleCause.{OracleCause}
use Rattle.apd_causes.specs.declared.faults.OracleCause.TheVariants as causes
use Rattle.apd_causes.specs.declared.faults.ReadFault.{ReadFault}
use Rattle.apd_causes.specs.declared.faults.TokenFault.{TokenFault}
use Rattle.apd_token.specs.declared.items.Token.{Token}
use Rattle.apd_ops.specs.Table.{Table}
use Rattle.apd_read.specs.Reader.{Reader}
use Rattle.apd_load.specs.Lines.{line_at}
use Rattle.apd_load.specs.Program.{place_of_fault, place_of_token_fault}
use Rattle.apd_known.specs.Statements.{with_clause}
use Rattle.apd_known.specs.declared.file.Stated.{Stated}

-- a text is refused, for this cause in this line, or this is what it states
pub data States : Type 0 where
  refused : ℕ → OracleCause → States
  states : Stated → States

-- where no clause is left: a text without a clause has no form
abbrev pub at_end : Option Stated → States
at_end None = refused 1 causes.NoForm
at_end (Some s) = states s

-- what a clause makes, before what is behind it
abbrev pub after_term : ℕ → Result Stated OracleCause → (Option Stated → States) → States
after_term line (Err cause) rest = refused line cause
after_term line (Ok s) rest = rest (Some s)

-- what was read, before what is behind it; a fault has the line of its place, every other cause that of the clause's first token
abbrev pub after_reading : List ℕ → Option Stated → Result Read ReadFault → (ℕ → Option Stated → States) → States
after_reading text s (Err fault) rest = refused (line_at text (place_of_fault fault)) (causes.Read fault)
after_reading text s (Ok r) rest = after_term (line_at text r.start) (with_clause s r.term) (rest r.next)

-- at most n clauses, from a token on
abbrev pub stated_from : {names : List (List ℕ)} → Reader names → Table → List ℕ → List Token → ℕ → ℕ → Option Stated → States
stated_from reader ops text tokens zero at s = at_end s
stated_from reader ops text tokens (suc n) at s =
    if nat_lt at (length tokens) then after_reading text s (reader.clause ops text tokens at) (stated_from reader ops text tokens n) else at_end s

-- all clauses; each has a token at least, so there are no more of them than tokens
abbrev pub all_stated : {names : List (List ℕ)} → Reader names → Table → List ℕ → List Token → States
all_stated reader ops text tokens = stated_from reader ops text tokens (length tokens) 0 None

abbrev pub after_division : {names : List (List ℕ)} → Reader names → Table → List ℕ → Result (List Token) TokenFault → States
after_division reader ops text (Err fault) = refused (line_at text (place_of_token_fault fault)) (causes.Token fault)
after_division reader ops text (Ok tokens) = all_stated reader ops text tokens

-- what a text states by these operators, or its first fault: the tokens of the whole text come first, then its clauses one after the other
unfoldable pub stated_in : {names : List (List ℕ)} → Reader names → Table → List ℕ → States
stated_in reader ops text = after_division reader ops text (reader.division text)

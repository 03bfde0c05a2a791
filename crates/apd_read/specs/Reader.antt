-- Texts read under some names as the definitions have it, so that definitions above can be functions.
use Rattle.std.specs.Prelude.{ℕ, ◌<◌, List, length, Result, Ok, Err}
use Rattle.apd_causes.specs.declared.faults.TokenFault.{TokenFault}
use Rattle.apd_causes.specs.declared.faults.ReadFault.{ReadFault}
use Rattle.apd_causes.specs.declared.faults.ReadFault.TheVariants as faults
use Rattle.apd_causes.specs.declared.reading.Read.{Read}
use Rattle.apd_ops.specs.Table.{Table, IsTable}
use Rattle.apd_token.specs.declared.items.Token.{Token}
use Rattle.apd_token.specs.Grammar.{HasTokens}
use Rattle.apd_token.specs.Division.{IsDivided}
use Rattle.apd_read.specs.Answer.{HasReading, HasFault}

-- the reading of the clause that begins at a token, or its first fault
abbrev pub IsRead : Table → List (List ℕ) → List ℕ → List Token → ℕ → Result Read ReadFault → Type 0
IsRead ops names text tokens at (Ok r) = HasReading ops names text tokens at r
IsRead ops names text tokens at (Err faults.Memory) = ⊥
IsRead ops names text tokens at (Err f) = HasFault ops names text tokens at f

-- how texts are read under these names: the division of each text and the reading of each clause, as the definitions have them
pub record Reader (names : List (List ℕ)) : Type 0 where
  pub division : List ℕ → Result (List Token) TokenFault
  pub divides : (text : List ℕ) → IsDivided text (division text)
  pub clause : Table → List ℕ → List Token → ℕ → Result Read ReadFault
  pub reads : (ops : Table) (text : List ℕ) (tokens : List Token) (at : ℕ) → IsTable ops → HasTokens text tokens → at < length tokens
      → IsRead ops names text tokens at (clause ops text tokens at)

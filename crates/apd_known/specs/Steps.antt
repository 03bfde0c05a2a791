-- What a call answers of an oracle file; want of memory may come at any text.
use Rattle.std.specs.Prelude.{◌≡◌, ℕ, List, Result, Ok, Err}
use Rattle.apd_term.specs.Growth.{Grown}
use Rattle.apd_causes.specs.declared.faults.OracleCause.TheVariants as causes
use Rattle.apd_causes.specs.declared.faults.ReadFault.{ReadFault}
use Rattle.apd_causes.specs.declared.faults.ReadFault.TheVariants as reading
use Rattle.apd_causes.specs.declared.faults.TokenFault.{TokenFault}
use Rattle.apd_causes.specs.declared.faults.TokenFault.TheVariants as dividing
use Rattle.apd_read.specs.Reader.{Reader}
use Rattle.apd_known.specs.Files.{States, states, refused}
use Rattle.apd_known.specs.declared.file.Stated.{Stated}
use Rattle.apd_known.specs.declared.file.OracleText.{OracleText}
use Rattle.apd_known.specs.declared.file.OracleText.TheVariants as texts

-- what is wanted, under all names that may come later, is the answer
abbrev pub IsStated : ((n : List (List ℕ)) → Reader n → States) → List (List ℕ) → Result Stated OracleText → Type 0
IsStated wanted names (Ok s) = (n : List (List ℕ)) → Grown names n → (reader : Reader n) → wanted n reader ≡ states s
IsStated wanted names (Err texts.Memory) = Unit {0}
IsStated wanted names (Err (texts.Refused line cause)) = (n : List (List ℕ)) → Grown names n → (reader : Reader n) → wanted n reader ≡ refused line cause

-- the answer where a clause has no reading
abbrev pub unread : ℕ → ReadFault → OracleText
unread line reading.Memory = texts.Memory
unread line fault = texts.Refused line (causes.Read fault)

-- the answer where a text has no division into tokens
abbrev pub undivided : ℕ → TokenFault → OracleText
undivided line dividing.Memory = texts.Memory
undivided line fault = texts.Refused line (causes.Token fault)

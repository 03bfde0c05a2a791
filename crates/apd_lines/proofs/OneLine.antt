-- Whichever reader reads, the same is read of a line.
use Rattle.std.proofs.Common.{◌≡◌, ℕ, ◌<◌, List, [], ◌∷◌, length, Result, Ok, Err, refl, ap, ◌∙◌, arith}
use Rattle.apd_causes.specs.declared.faults.TokenFault.{TokenFault}
use Rattle.apd_token.specs.declared.items.Token.{Token}
use Rattle.apd_token.specs.Division.{IsDivided}
use Rattle.apd_token.specs.Grammar.{HasTokens}
use Rattle.apd_token.proofs.Divided.{one_answer as one_division}
use Rattle.apd_ops.specs.Table.{Table, IsTable}
use Rattle.apd_read.specs.Reader.{Reader}
use Rattle.apd_read.proofs.Unique.{one_answer}
use Rattle.apd_console.specs.declared.line.Line.{Line}
use Rattle.apd_console.specs.declared.line.Line.TheVariants.{Text, TooLong}
use Rattle.apd_lines.specs.Lines.{line_from, line_in, line_of}

module _ (names : List (List ℕ)) (r s : Reader names) where
  one_clause : (ops : Table) (line : List ℕ) (tokens : List Token) → IsTable ops → HasTokens line tokens → 0 < length tokens → r.clause ops line tokens 0 ≡ s.clause ops line tokens 0
  one_clause ops line tokens table are some = one_answer ops names line tokens 0 (r.clause ops line tokens 0) (s.clause ops line tokens 0) table (r.reads ops line tokens 0 table are some) (s.reads ops line tokens 0 table are some)

  -- of a line that is divided so
  one_from : (ops : Table) (line : List ℕ) (d : Result (List Token) TokenFault) → IsTable ops → IsDivided line d → line_from r ops line d ≡ line_from s ops line d
  one_from ops line (Err fault) table is = refl
  one_from ops line (Ok []) table is = refl
  one_from ops line (Ok (t ∷ tokens)) table is = ap (line_of (t ∷ tokens)) (one_clause ops line (t ∷ tokens) table is.1 (omega arith))

  pub one_line : (ops : Table) (line : Line) → IsTable ops → line_in r ops line ≡ line_in s ops line
  unfolding line_in
  one_line ops TooLong table = refl
  one_line ops (Text line) table =
      ap (line_from r ops line) (one_division line (r.division line) (s.division line) (r.divides line) (s.divides line)) ∙ one_from ops line (s.division line) table (s.divides line)

-- A text's tokens, before its clauses.
use Rattle.std.proofs.Common.{◌≡◌, ◌≢◌, ℕ, List, Result, Ok, Err, ◌∙◌, ap, sym, subst}
use Rattle.std.specs.Prelude.{IsUtf8}
use Rattle.apd_term.specs.Growth.{Grown}
use Rattle.apd_causes.specs.declared.faults.TokenFault.{TokenFault}
use Rattle.apd_causes.specs.declared.faults.TokenFault.TheVariants as dividing
use Rattle.apd_causes.specs.declared.faults.OracleCause.TheVariants as causes
use Rattle.apd_token.specs.declared.items.Token.{Token}
use Rattle.apd_token.specs.Grammar.{HasTokens, IsFaultOf}
use Rattle.apd_ops.specs.Table.{Table}
use Rattle.apd_read.specs.Reader.{Reader}
use Rattle.apd_read.proofs.Readers.{reader_divides, reader_refuses}
use Rattle.apd_load.specs.Lines.{line_at}
use Rattle.apd_load.specs.Program.{place_of_token_fault}
use Rattle.apd_known.specs.Files.{States, refused, after_division, all_stated, stated_in}
use Rattle.apd_known.specs.Steps.{IsStated, undivided}
use Rattle.apd_known.specs.declared.file.OracleText.{OracleText}
use Rattle.apd_known.specs.declared.file.OracleText.TheVariants as texts
use Rattle.apd_known.specs.declared.file.Stated.{Stated}

module _ (ops : Table) (text : List ℕ) (names : List (List ℕ)) where
  abbrev wanted : (n : List (List ℕ)) → Reader n → States
  wanted n reader = stated_in reader ops text

  divided : (tokens : List Token) → IsUtf8 text → HasTokens text tokens → (n : List (List ℕ)) (reader : Reader n) → stated_in reader ops text ≡ all_stated reader ops text tokens
  unfolding stated_in
  divided tokens utf8 are n reader = ap (after_division reader ops text) (reader_divides n reader text tokens utf8 are)

  pub clauses_stated : (tokens : List Token) → IsUtf8 text → HasTokens text tokens → (r : Result Stated OracleText) → IsStated (λ n reader. all_stated reader ops text tokens) names r
      → IsStated wanted names r
  clauses_stated tokens utf8 are (Ok s) h = λ n g reader. divided tokens utf8 are n reader ∙ h n g reader
  clauses_stated tokens utf8 are (Err texts.Memory) h = tt
  clauses_stated tokens utf8 are (Err (texts.Refused line cause)) h = λ n g reader. divided tokens utf8 are n reader ∙ h n g reader

  not_divided : (f : TokenFault) → f ≢ dividing.Memory → IsFaultOf text f → (n : List (List ℕ)) → Grown names n → (reader : Reader n)
      → stated_in reader ops text ≡ refused (line_at text (place_of_token_fault f)) (causes.Token f)
  unfolding stated_in
  not_divided f some fault n g reader = ap (after_division reader ops text) (reader_refuses n reader text f some fault)

  fault_refused : (f : TokenFault) → IsFaultOf text f → IsStated wanted names (Err (undivided (line_at text (place_of_token_fault f)) f))
  fault_refused dividing.Memory fault = tt
  fault_refused f fault = not_divided f (λ e. cc) fault

  pub token_fault_told : (f : TokenFault) (place line : ℕ) (told : OracleText) → IsFaultOf text f
      → place ≡ place_of_token_fault f → line ≡ line_at text place → told ≡ undivided line f → IsStated wanted names (Err told)
  token_fault_told f place line told fault is_place is_line is_told =
      let e : told ≡ undivided (line_at text (place_of_token_fault f)) f = cc in
      subst (λ x. IsStated wanted names (Err x)) (sym e) (fault_refused f fault)

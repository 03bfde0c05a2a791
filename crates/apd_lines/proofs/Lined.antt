-- What a line asks for, whichever reader reads it.
use Rattle.std.proofs.Common.{◌≡◌, ◌≢◌, ◌==◌, ℕ, ◌-◌, ◌<◌, List, [], ◌∷◌, ◌++◌, length, refl, sym, subst, arith, true, false, Result, Ok, Err}
use Rattle.std.proofs.lemmas.Bool.{eqb-true}
use Rattle.std.specs.Prelude.{IfOk, OnOk, IsUtf8}
use Rattle.std.specs.declared.alloc.AllocError.{AllocError}
use Rattle.apd_term.specs.Growth.{Grown, GrowsBy}
use Rattle.apd_causes.specs.declared.faults.LoadCause.TheVariants as causes
use Rattle.apd_causes.specs.declared.faults.ReadFault.{ReadFault}
use Rattle.apd_causes.specs.declared.faults.ReadFault.TheVariants as reading
use Rattle.apd_causes.specs.declared.faults.TokenFault.{TokenFault}
use Rattle.apd_causes.specs.declared.faults.TokenFault.TheVariants as dividing
use Rattle.apd_causes.specs.declared.reading.Read.{Read}
use Rattle.apd_token.specs.declared.items.Token.{Token}
use Rattle.apd_token.specs.Grammar.{HasTokens, IsFaultOf}
use Rattle.apd_token.proofs.Counting.{tokens_few}
use Rattle.apd_ops.specs.Table.{Table, IsTable}
use Rattle.apd_read.specs.Answer.{HasReading, IsReadFault}
use Rattle.apd_read.specs.Reader.{Reader}
use Rattle.apd_read.proofs.Readers.{reader_divides, reader_refuses, reader_reads, reader_faults}
use Rattle.apd_lines.specs.Lines.{line_from, line_of}
use Rattle.apd_lines.specs.declared.lines.LineRead.{LineRead}
use Rattle.apd_lines.specs.declared.lines.LineRead.TheVariants.{Empty, Bad}

-- there are no more tokens than bytes
pub grows_few : (line : List ℕ) (tokens : List Token) (names later : List (List ℕ)) → HasTokens line tokens → GrowsBy (length tokens - 0) names later → GrowsBy (length line) names later
grows_few line tokens names later are grows = let few = tokens_few line tokens are in let most = grows.2 in (grows.0, grows.1, omega (arith, few, most))

-- the reading of a line, under whatever names come later
module _ (later n : List (List ℕ)) (grew : Grown later n) (reader : Reader n) (ops : Table) (line : List ℕ) (tokens : List Token) (table : IsTable ops) (are : HasTokens line tokens) (some : 0 < length tokens) where
  pub reads_as : (r : Read) → ((more : List (List ℕ)) → HasReading ops (later ++ more) line tokens 0 r) → reader.clause ops line tokens 0 ≡ Ok r
  reads_as r reads = reader_reads n reader ops line tokens 0 r table are some (subst (λ (names : List (List ℕ)). HasReading ops names line tokens 0 r) (sym grew.1) (reads grew.0))

  pub faults_as : (f : ReadFault) → (f ≡ reading.Memory → ⊥) → ((more : List (List ℕ)) → IsReadFault ops (later ++ more) line tokens 0 f) → reader.clause ops line tokens 0 ≡ Err f
  faults_as f some_fault fault =
      reader_faults n reader ops line tokens 0 f table are some some_fault (subst (λ (names : List (List ℕ)). IsReadFault ops names line tokens 0 f) (sym grew.1) (fault grew.0))

-- a line without tokens, and one with tokens
without_tokens : {n : List (List ℕ)} (reader : Reader n) (ops : Table) (line : List ℕ) (tokens : List Token) → (length tokens == 0) ≡ true → Empty ≡ line_from reader ops line (Ok tokens)
without_tokens reader ops line [] none = refl
without_tokens reader ops line (t ∷ tokens) none = let e = eqb-true (length (t ∷ tokens)) 0 none in absurd (omega (arith, e))

with_tokens : {n : List (List ℕ)} (reader : Reader n) (ops : Table) (line : List ℕ) (tokens : List Token) → (length tokens == 0) ≡ false → line_of tokens (reader.clause ops line tokens 0) ≡ line_from reader ops line (Ok tokens)
with_tokens reader ops line [] some = absurd (cc)
with_tokens reader ops line (t ∷ tokens) some = refl

module _ (n : List (List ℕ)) (reader : Reader n) (ops : Table) (line : List ℕ) where
  pub asks_nothing : (tokens : List Token) → IsUtf8 line → HasTokens line tokens → (length tokens == 0) ≡ true → Empty ≡ line_from reader ops line (reader.division line)
  asks_nothing tokens utf8 are none = rw (reader_divides n reader line tokens utf8 are) (without_tokens reader ops line tokens none)

  pub asks : (tokens : List Token) → IsUtf8 line → HasTokens line tokens → (length tokens == 0) ≡ false → line_of tokens (reader.clause ops line tokens 0) ≡ line_from reader ops line (reader.division line)
  asks tokens utf8 are some = rw (reader_divides n reader line tokens utf8 are) (with_tokens reader ops line tokens some)

-- a line that is refused for a fault
pub refused_reading : (result : Result LineRead AllocError) (f : ReadFault) (tokens : List Token) (later : List (List ℕ)) (ops : Table) (line : List ℕ) →
    IfOk result (λ c. c ≡ Bad (causes.Read f)) → OnOk result (f ≢ reading.Memory) → (f ≢ reading.Memory → (n : List (List ℕ)) → Grown later n → (reader : Reader n) → reader.clause ops line tokens 0 ≡ Err f) →
    IfOk result (λ c. (n : List (List ℕ)) → Grown later n → (reader : Reader n) → c ≡ line_of tokens (reader.clause ops line tokens 0))
refused_reading (Ok c) f tokens later ops line is some faults = λ n grew reader. rw (is, faults some n grew reader) refl
refused_reading (Err e) f tokens later ops line is some faults = tt

pub refused_division : (result : Result LineRead AllocError) (f : TokenFault) (later : List (List ℕ)) (ops : Table) (line : List ℕ) →
    IfOk result (λ c. c ≡ Bad (causes.Token f)) → OnOk result (f ≢ dividing.Memory) → IsFaultOf line f →
    IfOk result (λ c. (n : List (List ℕ)) → Grown later n → (reader : Reader n) → c ≡ line_from reader ops line (reader.division line))
refused_division (Ok c) f later ops line is some fault = λ n grew reader. rw (is, reader_refuses n reader line f some fault) refl
refused_division (Err e) f later ops line is some fault = tt

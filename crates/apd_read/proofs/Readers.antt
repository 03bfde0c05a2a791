-- What each reader of texts under some names answers.
use Rattle.std.proofs.Common.{◌≡◌, ℕ, ◌<◌, List, length, Ok, Err, refl}
use Rattle.std.specs.Prelude.{IsUtf8}
use Rattle.apd_causes.specs.declared.faults.TokenFault.{TokenFault}
use Rattle.apd_causes.specs.declared.faults.TokenFault.TheVariants as divisions
use Rattle.apd_causes.specs.declared.faults.ReadFault.{ReadFault}
use Rattle.apd_causes.specs.declared.faults.ReadFault.TheVariants as faults
use Rattle.apd_causes.specs.declared.reading.Read.{Read}
use Rattle.apd_ops.specs.Table.{Table, IsTable}
use Rattle.apd_token.specs.declared.items.Token.{Token}
use Rattle.apd_token.specs.Grammar.{HasTokens, IsFaultOf}
use Rattle.apd_token.proofs.Divided.{one_answer as one_division}
use Rattle.apd_token.proofs.Every.{is_divided}
use Rattle.apd_read.specs.Answer.{HasReading, IsReadFault}
use Rattle.apd_read.specs.Reader.{IsRead, Reader}
use Rattle.apd_read.proofs.Unique.{one_answer}

pub reader_divides : (names : List (List ℕ)) (reader : Reader names) (text : List ℕ) (ts : List Token) → IsUtf8 text → HasTokens text ts → reader.division text ≡ Ok ts
reader_divides names reader text ts u h = one_division text (reader.division text) (Ok ts) (reader.divides text) (u, h)

pub reader_refuses : (names : List (List ℕ)) (reader : Reader names) (text : List ℕ) (f : TokenFault) → (f ≡ divisions.Memory → ⊥) → IsFaultOf text f → reader.division text ≡ Err f
reader_refuses names reader text f m h = one_division text (reader.division text) (Err f) (reader.divides text) (is_divided text f m h)

read_fault : (ops : Table) (names : List (List ℕ)) (text : List ℕ) (tokens : List Token) (at : ℕ) (f : ReadFault) → (f ≡ faults.Memory → ⊥)
    → IsReadFault ops names text tokens at f → IsRead ops names text tokens at (Err f)
read_fault ops names text tokens at (faults.NoTerm k) m h = h
read_fault ops names text tokens at (faults.Priority k) m h = h
read_fault ops names text tokens at (faults.Unclosed k) m h = h
read_fault ops names text tokens at (faults.Stray k) m h = h
read_fault ops names text tokens at (faults.NoEnd k) m h = h
read_fault ops names text tokens at (faults.ArityOver k) m h = h
read_fault ops names text tokens at (faults.Wide k) m h = h
read_fault ops names text tokens at (faults.TooDeep k) m h = h
read_fault ops names text tokens at faults.Memory m h = absurd (m refl)

pub reader_reads : (names : List (List ℕ)) (reader : Reader names) (ops : Table) (text : List ℕ) (tokens : List Token) (at : ℕ) (r : Read)
    → IsTable ops → HasTokens text tokens → at < length tokens → HasReading ops names text tokens at r → reader.clause ops text tokens at ≡ Ok r
reader_reads names reader ops text tokens at r table are lt h = one_answer ops names text tokens at (reader.clause ops text tokens at) (Ok r) table (reader.reads ops text tokens at table are lt) h

pub reader_faults : (names : List (List ℕ)) (reader : Reader names) (ops : Table) (text : List ℕ) (tokens : List Token) (at : ℕ) (f : ReadFault)
    → IsTable ops → HasTokens text tokens → at < length tokens → (f ≡ faults.Memory → ⊥) → IsReadFault ops names text tokens at f → reader.clause ops text tokens at ≡ Err f
reader_faults names reader ops text tokens at f table are lt m h =
    one_answer ops names text tokens at (reader.clause ops text tokens at) (Err f) table (reader.reads ops text tokens at table are lt) (read_fault ops names text tokens at f m h)

-- What is known of a text that was read.
use Rattle.std.proofs.Common.{◌≡◌, ◌≤◌, ◌*◌, ℕ, List, length, Option, None, Some, refl, arith}
use Rattle.std.specs.Prelude.{IfSome, nat_le, true}
use Rattle.std.specs.Option.{option_map}
use Rattle.std.proofs.lemmas.Grind.{common_steps}
use Rattle.apd_base.specs.declared.limits.TheConstants.{MAX_FILE, MOST_CLAUSE_SYMBOLS}
use Rattle.apd_causes.specs.declared.reading.Read.{Read}
use Rattle.apd_lines.specs.Lines.{IsReadOf, LineIsReadOf, line_from}
use Rattle.apd_lines.specs.declared.lines.LineRead.{LineRead}
use Rattle.apd_lines.specs.declared.lines.LineRead.TheVariants as lines
use Rattle.apd_ops.specs.Table.{Table}
use Rattle.apd_read.specs.Reader.{Reader}
use Rattle.apd_term.specs.Growth.{Grown, GrowsBy}
use Rattle.apd_term.specs.Named.{IsNamed}
use Rattle.apd_term.specs.Term.{size}
use Rattle.apd_claims.specs.Reading.{read_of, reading}

pub grows : (names later : List (List ℕ)) (most : ℕ) → GrowsBy most names later → Grown names later
grows names later most g = (g.0, g.1)

read-short : (n m : ℕ) (r : Read) → m ≤ MAX_FILE → IsReadOf n m r.term → IsReadOf n MAX_FILE r.term
read-short n m r short h = record { standard = h.standard; named = h.named; short = let s = h.short in omega (arith, s, short) }

pub read-named : (n m : ℕ) (line : LineRead) (o : Option Read) → m ≤ MAX_FILE → o ≡ read_of line → LineIsReadOf n m line → IfSome o (λ r. IsReadOf n MAX_FILE r.term)
read-named n m lines.Empty o short e h = rw e tt
read-named n m lines.TooLong o short e h = rw e tt
read-named n m (lines.Bad cause) o short e h = rw e tt
read-named n m (lines.Clause r) o short e h = rw e (read-short n m r short h)

-- a text that is no longer than a file may be
pub reads-short : {n : List (List ℕ)} (reader : Reader n) (ops : Table) (text : List ℕ) → length text ≤ MAX_FILE → read_of (line_from reader ops text (reader.division text)) ≡ reading reader ops text
reads-short reader ops text short = let yes : nat_le (length text) MAX_FILE ≡ true = grind (arith, common_steps, short) in rw yes refl

-- the term of what was read
pub term-named : (n : ℕ) (o : Option Read) → IfSome o (λ r. IsReadOf n MAX_FILE r.term) → IfSome (option_map (λ (r : Read). r.term) o) (IsNamed n)
term-named n None h = tt
term-named n (Some r) h = h.named

-- what was read of a text has few symbols
pub few-symbols : (n : ℕ) (o : Option Read) → IfSome o (λ r. IsReadOf n MAX_FILE r.term) → IfSome o (λ r. 3 * size r.term ≤ MOST_CLAUSE_SYMBOLS)
few-symbols n None h = tt
few-symbols n (Some r) h = let s = h.short in omega (arith, s)

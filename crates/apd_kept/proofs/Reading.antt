-- A text of statements that are read in turn states what they say, one after another.
use Rattle.std.proofs.Common.{◌≡◌, ℕ, ◌+◌, ◌<◌, ◌≤◌, zero, suc, List, [], ◌∷◌, ◌++◌, length, Option, None, Some, Ok, refl, ◌∙◌, ap, arith}
use Rattle.std.proofs.lemmas.Bool.{le-ltb, lt-ltb}
use Rattle.apd_ops.specs.Table.{IsTable, Table}
use Rattle.apd_read.specs.Reader.{Reader}
use Rattle.apd_read.proofs.Readers.{reader_divides, reader_reads}
use Rattle.apd_reading_back.specs.Lines.{ReadInTurn, ReadsInTurn}
use Rattle.apd_term.specs.Term.{Term}
use Rattle.apd_token.specs.Grammar.{HasTokens}
use Rattle.apd_token.specs.declared.items.Token.{Token}
use Rattle.apd_known.specs.Files.{after_division, at_end, stated_from, stated_in, states}
use Rattle.apd_known.specs.Statements.{with_clause}
use Rattle.apd_known.specs.declared.file.Stated.{Stated}

-- these clauses, one after another, make this of what is stated before them
abbrev pub Makes : Option Stated → List Term → Stated → Type 0
Makes s [] x = s ≡ Some x
Makes s (t ∷ ts) x = (y : Stated) × (with_clause s t ≡ Ok y) × Makes (Some y) ts x

module _ (ops : Table) (names : List (List ℕ)) (reader : Reader names) (text : List ℕ) (tokens : List Token) (table : IsTable ops) (are : HasTokens text tokens) where
  no_more : (k at : ℕ) (s : Option Stated) → length tokens ≤ at → stated_from reader ops text tokens k at s ≡ at_end s
  no_more zero at s le = refl
  no_more (suc j) at s le = rw (le-ltb at (length tokens) le) refl

  turn_by_turn : (ts : List Term) (k at : ℕ) (s : Option Stated) (x : Stated) → ReadInTurn ops names text tokens at ts → Makes s ts x → length tokens ≤ at + k
      → stated_from reader ops text tokens k at s ≡ states x
  turn_by_turn [] k at s x reads makes enough = no_more k at s (omega (arith, reads)) ∙ ap at_end makes
  turn_by_turn (t ∷ ts) zero at s x (r, reads, same, further, within, rest) makes enough = absurd (omega (arith, further, within, enough))
  turn_by_turn (t ∷ ts) (suc j) at s x (r, reads, same, further, within, rest) (y, makes, others) enough =
      let there : at < length tokens = omega (arith, further, within) in
      let clause : reader.clause ops text tokens at ≡ Ok r = reader_reads names reader ops text tokens at r table are there reads in
      let made : with_clause s r.term ≡ Ok y = ap (with_clause s) same ∙ makes in
      rw (lt-ltb at (length tokens) there, clause, made) (turn_by_turn ts j r.next (Some y) x rest others (omega (arith, further, enough)))

pub states_in_turn : (ops : Table) (names later : List (List ℕ)) (reader : Reader (names ++ later)) (text : List ℕ) (ts : List Term) (x : Stated) → IsTable ops → ReadsInTurn ops names text ts → Makes None ts x
    → stated_in reader ops text ≡ states x
unfolding stated_in
states_in_turn ops names later reader text ts x table reads makes =
    let tokens : List Token = reads.tokens in
    ap (after_division reader ops text) (reader_divides (names ++ later) reader text tokens reads.divided.0 reads.divided.1)
    ∙ turn_by_turn ops (names ++ later) reader text tokens table reads.divided.1 ts (length tokens) 0 None x (reads.reading later) makes (omega arith)

-- Whole texts are read alike under lists of names that begin alike.
use Rattle.std.proofs.Common.{◌≡◌, ℕ, Bool, true, false, List, [], ◌∷◌, length, sym, subst, arith, Option, None, Some, Result, Ok, Err}
use Rattle.std.specs.Prelude.{if◌then◌else◌, nat_le, slice_get, IfSome}
use Rattle.std.specs.Option.{option_map}
use Rattle.apd_base.specs.declared.limits.TheConstants.{MAX_FILE}
use Rattle.apd_causes.specs.declared.faults.ReadFault.{ReadFault}
use Rattle.apd_causes.specs.declared.faults.TokenFault.{TokenFault}
use Rattle.apd_causes.specs.declared.reading.Read.{Read}
use Rattle.apd_claims.specs.Reading.{as_clause, read_of, reading, term_in}
use Rattle.apd_lines.specs.Lines.{line_from, line_of, whole_line}
use Rattle.apd_ops.specs.Table.{IsTable, Table}
use Rattle.apd_read.specs.Reader.{Reader}
use Rattle.apd_term.specs.Named.{IsNamed}
use Rattle.apd_term.specs.Term.{Term}
use Rattle.apd_token.specs.Division.{IsDivided}
use Rattle.apd_token.specs.declared.items.Token.{Token}
use Rattle.apd_token.proofs.Divided.{one_answer as one_division}
use Rattle.apd_numbering.specs.Lists.{BeginAlike, HasFewOperators}
use Rattle.apd_numbering.specs.Renumbering.{renumbered}
use Rattle.apd_numbering.proofs.Exchanged.{Between}
use Rattle.apd_numbering.proofs.Readings.{AnswersTwins, ReadTwins, both_fail, both_read, clauses-twins}
use Rattle.apd_numbering.proofs.Twins.{AreOfOneText, AreTwins}
use Rattle.apd_numbering.proofs.Written.{IsShared, twins-renumbered}

-- both are readings, and alike, or neither is there
pub data TextsTwins (one : ℕ → ℕ → Type 0) : Option Read → Option Read → Type 0 where
  neither_reads : TextsTwins one None None
  both_reads : (r s : Read) → ReadTwins one r s → TextsTwins one (Some r) (Some s)

-- both are terms, and alike, or neither is there
pub data TermsTwins (one : ℕ → ℕ → Type 0) : Option Term → Option Term → Type 0 where
  no_term : TermsTwins one None None
  both_terms : (t u : Term) → AreTwins one t u → TermsTwins one (Some t) (Some u)

pub texts_terms : (one : ℕ → ℕ → Type 0) {a b : Option Read} → TextsTwins one a b → TermsTwins one (option_map (λ (r : Read). r.term) a) (option_map (λ (r : Read). r.term) b)
texts_terms one neither_reads = no_term
texts_terms one (both_reads r s h) = both_terms r.term s.term h.term

module _ (n : ℕ) (names others : List (List ℕ)) (x : BeginAlike n names others) (ops : Table) (few : HasFewOperators n ops) (table : IsTable ops) (r : Reader names) (s : Reader others) where
  lines-twins : (tokens : List Token) {a b : Result Read ReadFault} → AnswersTwins (AreOfOneText names others) a b → TextsTwins (AreOfOneText names others) (read_of (line_of tokens a)) (read_of (line_of tokens b))
  lines-twins tokens (both_read p q h) =
      subst (λ k. TextsTwins (AreOfOneText names others) (read_of (whole_line p (slice_get tokens p.next))) (read_of (whole_line q (slice_get tokens k)))) (sym h.next) (by (slice_get tokens p.next))
    where
      by : (o : Option Token) → TextsTwins (AreOfOneText names others) (read_of (whole_line p o)) (read_of (whole_line q o))
      by None = both_reads p q h
      by (Some t) = neither_reads
  lines-twins tokens (both_fail e f) = neither_reads

  divided-twins : (text : List ℕ) (d : Result (List Token) TokenFault) → IsDivided text d → TextsTwins (AreOfOneText names others) (read_of (line_from r ops text d)) (read_of (line_from s ops text d))
  divided-twins text (Err fault) is = neither_reads
  divided-twins text (Ok []) is = neither_reads
  divided-twins text (Ok (t ∷ tokens)) is = lines-twins (t ∷ tokens) (clauses-twins n names others x ops few table r s text (t ∷ tokens) 0 is.1 (omega arith))

  pub reading-twins : (text : List ℕ) → TextsTwins (AreOfOneText names others) (reading r ops text) (reading s ops text)
  reading-twins text = by (nat_le (length text) MAX_FILE)
    where
      same : s.division text ≡ r.division text
      same = one_division text (s.division text) (r.division text) (s.divides text) (r.divides text)

      by : (b : Bool) → TextsTwins (AreOfOneText names others) (if b then read_of (line_from r ops text (r.division text)) else None) (if b then read_of (line_from s ops text (s.division text)) else None)
      by true = subst (λ d. TextsTwins (AreOfOneText names others) (read_of (line_from r ops text (r.division text))) (read_of (line_from s ops text d))) (sym same) (divided-twins text (r.division text) (r.divides text))
      by false = neither_reads

  pub term-twins : (text : List ℕ) → TermsTwins (AreOfOneText names others) (term_in r ops text) (term_in s ops text)
  term-twins text = texts_terms (AreOfOneText names others) (reading-twins (as_clause text))

-- Where names are kept.

-- the one is a reading, and the other the same renumbered; or neither is there
pub data ReadAlike (names others : List (List ℕ)) (r : ℕ → ℕ) : Option Read → Option Read → Type 0 where
  none_read : ReadAlike names others r None None
  read_alike : (p q : Read) → q.term ≡ renumbered r p.term → q.vars ≡ p.vars → IsShared names others r p.term → ReadAlike names others r (Some p) (Some q)

pub data TermsAlike (names others : List (List ℕ)) (r : ℕ → ℕ) : Option Term → Option Term → Type 0 where
  none_alike : TermsAlike names others r None None
  terms_alike : (t : Term) → IsShared names others r t → TermsAlike names others r (Some t) (Some (renumbered r t))

module _ (n : ℕ) (names others : List (List ℕ)) (b : Between n names others) where
  pub kept-reading : {o u : Option Read} → TextsTwins (AreOfOneText names others) o u → IfSome o (λ p. IsNamed (length names) p.term) → IfSome u (λ p. IsNamed (length others) p.term)
      → ReadAlike names others b.numbering.to o u
  kept-reading neither_reads i j = none_read
  kept-reading (both_reads p q h) i j = let k = twins-renumbered n names others b h.term i j in read_alike p q k.0 h.vars k.1

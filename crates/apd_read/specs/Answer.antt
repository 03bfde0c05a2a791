-- What a clause of a text reads as, with the places of its faults in the text.
use Rattle.std.specs.Prelude.{◌≡◌, ℕ, ◌+◌, ◌<◌, ◌≤◌, Option, Some, None, List, drop, length, slice_get}
use Rattle.apd_causes.specs.declared.faults.ReadFault.{ReadFault}
use Rattle.apd_causes.specs.declared.faults.ReadFault.TheVariants as faults
use Rattle.apd_causes.specs.declared.reading.Read.{Read}
use Rattle.apd_ops.specs.Table.{Table}
use Rattle.apd_token.specs.declared.items.Token.{Token}
use Rattle.apd_read.specs.declared.phrase.TheConstants.{TOO_MANY_LEVELS}
use Rattle.apd_read.specs.declared.lexeme.Lexeme.{Lexeme}
use Rattle.apd_read.specs.declared.phrase.Phrase.{Phrase}
use Rattle.apd_read.specs.declared.places.Inside.TheVariants.{Clause}
use Rattle.apd_read.specs.declared.brackets.ClauseFault.{ClauseFault}
use Rattle.apd_read.specs.declared.brackets.ClauseFault.TheVariants as seen
use Rattle.apd_read.specs.Reading.{Splits}
use Rattle.apd_read.specs.Clause.{Fills, IsClauseFault}
use Rattle.apd_read.specs.Lexemes.{AreLexemes, to_end}

-- where a token begins in the text, and the text's length where there is none
abbrev pub start_of : Option Lexeme → ℕ → ℕ
start_of None text_end = text_end
start_of (Some l) text_end = l.start

abbrev pub place_of : List Lexeme → ℕ → ℕ → ℕ
place_of ls text_end k = start_of (slice_get ls k) text_end

-- the fault is seen in the clause, and its place is the place of the token that it names
abbrev pub IsSeen : Table → List Lexeme → ℕ → (ℕ → ClauseFault) → ℕ → Type 0
IsSeen ops ls text_end fault place = (k : ℕ) × IsClauseFault Splits ops ls (fault k) × (place ≡ place_of ls text_end k)

-- the clause has a reading, of which some term is at level 1,000
abbrev pub IsTooDeep : Table → List Lexeme → ℕ → ℕ → Type 0
IsTooDeep ops ls text_end place = (p : Phrase) × (n : ℕ) × Fills Splits ops ls Clause 0 p n × (TOO_MANY_LEVELS ≤ p.height) × (place ≡ place_of ls text_end 0)

abbrev pub IsFaultIn : Table → List Lexeme → ℕ → ReadFault → Type 0
IsFaultIn ops ls text_end (faults.NoTerm place) = IsSeen ops ls text_end seen.NoTerm place
IsFaultIn ops ls text_end (faults.Priority place) = IsSeen ops ls text_end seen.Priority place
IsFaultIn ops ls text_end (faults.Unclosed place) = IsSeen ops ls text_end seen.Unclosed place
IsFaultIn ops ls text_end (faults.Stray place) = IsSeen ops ls text_end seen.Stray place
IsFaultIn ops ls text_end (faults.NoEnd place) = IsSeen ops ls text_end seen.NoEnd place
IsFaultIn ops ls text_end (faults.ArityOver place) = IsSeen ops ls text_end seen.ArityOver place
IsFaultIn ops ls text_end (faults.Wide place) = IsSeen ops ls text_end seen.Wide place
IsFaultIn ops ls text_end (faults.TooDeep place) = IsTooDeep ops ls text_end place
IsFaultIn ops ls text_end faults.Memory = Unit {0}

-- what the tokens from one on up to the first that ends a clause stand for, and their variables
pub record HasLexemes (names : List (List ℕ)) (text : List ℕ) (tokens : List Token) (at : ℕ) : Type 0 where
  pub lexemes : List Lexeme
  pub vars : List (List ℕ)
  pub are : AreLexemes names text (to_end (drop at tokens)) lexemes vars

-- The clause that begins at a token reads as this, by its main operators.
pub record HasReading (ops : Table) (names : List (List ℕ)) (text : List ℕ) (tokens : List Token) (at : ℕ) (r : Read) : Type 0 where
  pub clause : HasLexemes names text tokens at
  pub phrase : Phrase
  pub count : ℕ
  pub fills : Fills Splits ops clause.lexemes Clause 0 phrase count
  pub shallow : phrase.height < TOO_MANY_LEVELS
  pub term : r.term ≡ phrase.term
  pub vars : r.vars ≡ clause.vars
  pub start : r.start ≡ place_of clause.lexemes (length text) 0
  pub next : r.next ≡ at + count

-- or this is its first fault; want of memory may come at any clause
pub record HasFault (ops : Table) (names : List (List ℕ)) (text : List ℕ) (tokens : List Token) (at : ℕ) (f : ReadFault) : Type 0 where
  pub clause : HasLexemes names text tokens at
  pub fault : IsFaultIn ops clause.lexemes (length text) f

abbrev pub IsReadFault : Table → List (List ℕ) → List ℕ → List Token → ℕ → ReadFault → Type 0
IsReadFault ops names text tokens at faults.Memory = Unit {0}
IsReadFault ops names text tokens at f = HasFault ops names text tokens at f

-- a fault with its place in the text
abbrev pub placed : List Lexeme → ℕ → ClauseFault → ReadFault
placed ls text_end (seen.NoTerm k) = faults.NoTerm (place_of ls text_end k)
placed ls text_end (seen.Wide k) = faults.Wide (place_of ls text_end k)
placed ls text_end (seen.Stray k) = faults.Stray (place_of ls text_end k)
placed ls text_end (seen.Unclosed k) = faults.Unclosed (place_of ls text_end k)
placed ls text_end (seen.NoEnd k) = faults.NoEnd (place_of ls text_end k)
placed ls text_end (seen.Priority k) = faults.Priority (place_of ls text_end k)
placed ls text_end (seen.ArityOver k) = faults.ArityOver (place_of ls text_end k)
placed ls text_end seen.Memory = faults.Memory

-- what was read of lexemes from a place of the tokens on
pub record IsReadAs (ops : Table) (ls : List Lexeme) (vars : List (List ℕ)) (text_end at : ℕ) (r : Read) : Type 0 where
  pub phrase : Phrase
  pub count : ℕ
  pub fills : Fills Splits ops ls Clause 0 phrase count
  pub shallow : phrase.height < TOO_MANY_LEVELS
  pub term : r.term ≡ phrase.term
  pub names : r.vars ≡ vars
  pub start : r.start ≡ place_of ls text_end 0
  pub next : r.next ≡ at + count

-- Faults in their places, and how far a clause goes.
use Rattle.std.proofs.Common.{◌≡◌, ℕ, ◌<◌, ◌≤◌, List, ◌++◌, drop, refl, arith}
use Rattle.apd_ops.specs.Table.{Table}
use Rattle.apd_read.specs.declared.lexeme.Lexeme.{Lexeme}
use Rattle.apd_read.specs.declared.phrase.Phrase.{Phrase}
use Rattle.apd_read.specs.declared.places.Inside.{Inside}
use Rattle.apd_read.specs.declared.places.Go.TheVariants.{Closes, Ends}
use Rattle.apd_read.specs.declared.brackets.ClauseFault.{ClauseFault}
use Rattle.apd_read.specs.declared.brackets.ClauseFault.TheVariants as seen
use Rattle.apd_read.specs.Reading.{Piece, Splits}
use Rattle.apd_read.specs.Clause.{Fills, filled, IsClauseFault}
use Rattle.apd_causes.specs.declared.faults.ReadFault.{ReadFault}
use Rattle.apd_causes.specs.declared.faults.ReadFault.TheVariants as faults
use Rattle.apd_causes.specs.declared.reading.Read.{Read}
use Rattle.apd_token.specs.declared.items.Token.{Token}
use Rattle.apd_read.specs.Answer.{IsFaultIn, placed, HasLexemes, HasReading, IsReadFault, IsReadAs}
use Rattle.apd_read.specs.Lexemes.{AreLexemes, to_end, LexemesAreNamed}
use Rattle.apd_read.proofs.Tables.{goes_within}
use Rattle.apd_read.proofs.Growing.{lexemes_kept}
use Rattle.std.proofs.Common.{length}

pub placed_is : (ops : Table) (ls : List Lexeme) (text_end : ℕ) (f : ClauseFault) → IsClauseFault Splits ops ls f → IsFaultIn ops ls text_end (placed ls text_end f)
placed_is ops ls text_end (seen.NoTerm k) h = (k, h, refl)
placed_is ops ls text_end (seen.Wide k) h = (k, h, refl)
placed_is ops ls text_end (seen.Stray k) h = (k, h, refl)
placed_is ops ls text_end (seen.Unclosed k) h = (k, h, refl)
placed_is ops ls text_end (seen.NoEnd k) h = (k, h, refl)
placed_is ops ls text_end (seen.Priority k) h = (k, h, refl)
placed_is ops ls text_end (seen.ArityOver k) h = (k, h, refl)
placed_is ops ls text_end seen.Memory h = tt

-- a bracket ends within the lexemes
pub fills_within : {reads : ℕ → List Piece → Phrase → Type 0} {ops : Table} {ls : List Lexeme} {k : Inside} {from next : ℕ} {p : Phrase} → Fills reads ops ls k from p next → next ≤ length ls
fills_within {reads} {ops} {ls} (filled {next = next} {j} t e s g r) =
    let lt : next < length ls = goes_within ops j ls next Closes g (λ f. let h : Ends ≡ Closes = f in cc) in omega arith

reading_of : (ops : Table) (names : List (List ℕ)) (text : List ℕ) (tokens : List Token) (at : ℕ) (c : HasLexemes names text tokens at) (r : Read)
    → IsReadAs ops c.lexemes c.vars (length text) at r → HasReading ops names text tokens at r
reading_of ops names text tokens at c r h = record { clause = c; phrase = h.phrase; count = h.count; fills = h.fills; shallow = h.shallow; term = h.term; vars = h.names; start = h.start; next = h.next }

fault_of : (ops : Table) (names : List (List ℕ)) (text : List ℕ) (tokens : List Token) (at : ℕ) (c : HasLexemes names text tokens at) (f : ReadFault)
    → IsFaultIn ops c.lexemes (length text) f → IsReadFault ops names text tokens at f
fault_of ops names text tokens at c (faults.NoTerm k) h = record { clause = c; fault = h }
fault_of ops names text tokens at c (faults.Priority k) h = record { clause = c; fault = h }
fault_of ops names text tokens at c (faults.Unclosed k) h = record { clause = c; fault = h }
fault_of ops names text tokens at c (faults.Stray k) h = record { clause = c; fault = h }
fault_of ops names text tokens at c (faults.NoEnd k) h = record { clause = c; fault = h }
fault_of ops names text tokens at c (faults.ArityOver k) h = record { clause = c; fault = h }
fault_of ops names text tokens at c (faults.Wide k) h = record { clause = c; fault = h }
fault_of ops names text tokens at c (faults.TooDeep k) h = record { clause = c; fault = h }
fault_of ops names text tokens at c faults.Memory h = tt

-- the lexemes stay under more names, and what they read as
abbrev clause_under : (names more : List (List ℕ)) (text : List ℕ) (tokens : List Token) (at : ℕ) (ls : List Lexeme) (vars : List (List ℕ))
    → LexemesAreNamed (length names) ls → AreLexemes names text (to_end (drop at tokens)) ls vars → HasLexemes (names ++ more) text tokens at
clause_under names more text tokens at ls vars named are = record { lexemes = ls; vars = vars; are = lexemes_kept names (names ++ more) (length more) (more, refl, omega arith) named are }

pub reading_under : (ops : Table) (names more : List (List ℕ)) (text : List ℕ) (tokens : List Token) (at : ℕ) (ls : List Lexeme) (vars : List (List ℕ)) (r : Read)
    → LexemesAreNamed (length names) ls → AreLexemes names text (to_end (drop at tokens)) ls vars → IsReadAs ops ls vars (length text) at r → HasReading ops (names ++ more) text tokens at r
reading_under ops names more text tokens at ls vars r named are h = reading_of ops (names ++ more) text tokens at (clause_under names more text tokens at ls vars named are) r h

pub fault_under : (ops : Table) (names more : List (List ℕ)) (text : List ℕ) (tokens : List Token) (at : ℕ) (ls : List Lexeme) (vars : List (List ℕ)) (f : ReadFault)
    → LexemesAreNamed (length names) ls → AreLexemes names text (to_end (drop at tokens)) ls vars → IsFaultIn ops ls (length text) f → IsReadFault ops (names ++ more) text tokens at f
fault_under ops names more text tokens at ls vars f named are h = fault_of ops (names ++ more) text tokens at (clause_under names more text tokens at ls vars named are) f h

-- Reading a clause from its tokens: what each bracket holds, and the faults.
use Rattle.std.specs.Prelude.{◌≡◌, ℕ, ◌+◌, ◌-◌, ◌<◌, ◌⊎◌, Result, Ok, Err, List, [], ◌∷◌, ◌++◌, reverse, length}
use Rattle.apd_term.specs.declared.standard.TheConstants.{NIL}
use Rattle.apd_ops.specs.declared.op.TheConstants.{ARGUMENT_PRIORITY, MOST_PRIORITY}
use Rattle.apd_ops.specs.declared.op.Op.{Op}
use Rattle.apd_ops.specs.Table.{Table}
use Rattle.apd_read.specs.declared.lexeme.Lexeme.{Lexeme}
use Rattle.apd_read.specs.declared.phrase.Phrase.{Phrase}
use Rattle.apd_read.specs.declared.places.Inside.{Inside}
use Rattle.apd_read.specs.declared.places.Inside.TheVariants.{Clause, Paren, Curly, Args, Listing, Tail}
use Rattle.apd_read.specs.declared.places.Begin.TheVariants.{Word, Opens, Prefix, Wide, Nothing, NoMore}
use Rattle.apd_read.specs.declared.places.Go.TheVariants.{Infix, Separates, Turns, Closes, Unclosed, Stray, Ends}
use Rattle.apd_read.specs.declared.brackets.Whole.{Whole}
use Rattle.apd_read.specs.declared.brackets.ClauseFault.{ClauseFault}
use Rattle.apd_read.specs.declared.brackets.ClauseFault.TheVariants as fault
use Rattle.apd_read.specs.Phrases.{atom, leaf, enclosed, braced, call, listing}
use Rattle.apd_read.specs.Reading.{Piece, Operand, Operator}
use Rattle.apd_read.specs.Places.{begins, goes}

-- operand place and operator place
pub data Place : Type 0 where
  operand_place : Place
  operator_place : Place

-- the greatest priority of an item
abbrev pub most : Inside → ℕ
most Clause = MOST_PRIORITY
most Paren = MOST_PRIORITY
most Curly = MOST_PRIORITY
most (Args f) = ARGUMENT_PRIORITY
most Listing = ARGUMENT_PRIORITY
most Tail = ARGUMENT_PRIORITY

-- the operand that a bracket makes of its elements, the last of them first, and the item behind them
abbrev pub made : Inside → List Phrase → Phrase → Phrase
made Clause done p = p
made Paren done p = enclosed p
made Curly done p = braced p
made (Args f) done p = call f (reverse (p ∷ done))
made Listing done p = listing (reverse (p ∷ done)) (leaf (atom NIL))
made Tail done p = listing (reverse done) p

-- one more argument may come
abbrev pub HasRoom : Inside → List Phrase → Type 0
HasRoom (Args f) done = length done < 254
HasRoom Clause done = Unit {0}
HasRoom Paren done = Unit {0}
HasRoom Curly done = Unit {0}
HasRoom Listing done = Unit {0}
HasRoom Tail done = Unit {0}

-- there are at most 254 arguments before the last one
abbrev pub HasAtMost : Inside → List Phrase → Type 0
HasAtMost (Args f) done = length done < 255
HasAtMost Clause done = Unit {0}
HasAtMost Paren done = Unit {0}
HasAtMost Curly done = Unit {0}
HasAtMost Listing done = Unit {0}
HasAtMost Tail done = Unit {0}

mutual
  -- from a place where an item begins: the pieces up to a token, and the place of that token
  pub data Scans (reads : ℕ → List Piece → Phrase → Type 0) (ops : Table) (ts : List Lexeme) : Inside → ℕ → List Piece → Place → ℕ → Type 0 where
    item_begins : {k : Inside} {from : ℕ} → Scans reads ops ts k from [] operand_place from
    then_word : {k : Inside} {from at : ℕ} {ps : List Piece} (t : Phrase) (n : ℕ)
        → Scans reads ops ts k from ps operand_place at → begins ops ts at ≡ Word t n
        → Scans reads ops ts k from (ps ++ Operand t ∷ []) operator_place (at + n)
    then_bracket : {k : Inside} {from at next : ℕ} {ps : List Piece} (j : Inside) (n : ℕ) (t : Phrase)
        → Scans reads ops ts k from ps operand_place at → begins ops ts at ≡ Opens j n → Fills reads ops ts j (at + n) t next
        → Scans reads ops ts k from (ps ++ Operand t ∷ []) operator_place next
    then_prefix : {k : Inside} {from at : ℕ} {ps : List Piece} (o : Op)
        → Scans reads ops ts k from ps operand_place at → begins ops ts at ≡ Prefix o
        → Scans reads ops ts k from (ps ++ Operator o ∷ []) operand_place (at + 1)
    then_infix : {k : Inside} {from at : ℕ} {ps : List Piece} (o : Op)
        → Scans reads ops ts k from ps operator_place at → goes ops k ts at ≡ Infix o
        → Scans reads ops ts k from (ps ++ Operator o ∷ []) operand_place (at + 1)

  -- from the place behind an opening bracket: the elements so far, the last of them first, and the place behind
  -- the comma or the bar
  pub data Elements (reads : ℕ → List Piece → Phrase → Type 0) (ops : Table) (ts : List Lexeme) : Inside → ℕ → Inside → List Phrase → ℕ → Type 0 where
    no_element : {k : Inside} {from : ℕ} → Elements reads ops ts k from k [] from
    then_element : {k : Inside} {from at next : ℕ} {j : Inside} {done : List Phrase} {ps : List Piece} (t : Phrase)
        → Elements reads ops ts k from j done at → Scans reads ops ts j at ps operator_place next
        → goes ops j ts next ≡ Separates → reads (most j) ps t → HasRoom j done
        → Elements reads ops ts k from j (t ∷ done) (next + 1)
    then_tail : {k : Inside} {from at next : ℕ} {j : Inside} {done : List Phrase} {ps : List Piece} (t : Phrase)
        → Elements reads ops ts k from j done at → Scans reads ops ts j at ps operator_place next
        → goes ops j ts next ≡ Turns → reads (most j) ps t
        → Elements reads ops ts k from Tail (t ∷ done) (next + 1)

  -- from the place behind an opening bracket: the operand that the bracket is, and the place behind its end
  pub data Fills (reads : ℕ → List Piece → Phrase → Type 0) (ops : Table) (ts : List Lexeme) : Inside → ℕ → Phrase → ℕ → Type 0 where
    filled : {k : Inside} {from at next : ℕ} {j : Inside} {done : List Phrase} {ps : List Piece} (t : Phrase)
        → Elements reads ops ts k from j done at → Scans reads ops ts j at ps operator_place next
        → goes ops j ts next ≡ Closes → reads (most j) ps t
        → Fills reads ops ts k from (made j done t) (next + 1)

-- the front of each operator of the pieces has a reading
pub data FrontsRead (reads : ℕ → List Piece → Phrase → Type 0) (m : ℕ) : List Piece → Type 0 where
  no_front : FrontsRead reads m []
  past_operand : {ps : List Piece} (t : Phrase) → FrontsRead reads m ps → FrontsRead reads m (ps ++ Operand t ∷ [])
  past_operator : {ps : List Piece} (o : Op) → FrontsRead reads m ps → ((x : Phrase) → (t : Phrase) × reads m (ps ++ Operator o ∷ Operand x ∷ []) t) → FrontsRead reads m (ps ++ Operator o ∷ [])

-- an open bracket: what its items stand in, the place behind it, its elements so far, and the pieces before the bracket
-- inside it
pub record Layer : Type 0 where
  pub kind : Inside
  pub from : ℕ
  pub done : List Phrase
  pub pieces : List Piece

-- the open brackets, the innermost first; the innermost's kind, and the place behind it
pub data Under (reads : ℕ → List Piece → Phrase → Type 0) (ops : Table) (ts : List Lexeme) : List Layer → Inside → ℕ → Type 0 where
  outermost : Under reads ops ts [] Clause 0
  deeper : {layers : List Layer} {k j : Inside} {from at now : ℕ} {done : List Phrase} {ps : List Piece} (i : Inside) (n : ℕ)
      → Under reads ops ts layers k from → Elements reads ops ts k from j done at → Scans reads ops ts j at ps operand_place now
      → FrontsRead reads (most j) ps → begins ops ts now ≡ Opens i n
      → Under reads ops ts (record { kind = j; from = from; done = done; pieces = ps } ∷ layers) i (now + n)

-- the tokens before a place are without a fault: the brackets that are open there, the elements and the pieces in the innermost
pub record At (reads : ℕ → List Piece → Phrase → Type 0) (ops : Table) (ts : List Lexeme)
    (layers : List Layer) (j : Inside) (from : ℕ) (done : List Phrase) (ps : List Piece) (place : Place) (now : ℕ) : Type 0 where
  pub kind : Inside
  pub start : ℕ
  pub under : Under reads ops ts layers kind from
  pub elements : Elements reads ops ts kind from j done start
  pub scans : Scans reads ops ts j start ps place now
  pub fine : FrontsRead reads (most j) ps

abbrev pub Reached : (ℕ → List Piece → Phrase → Type 0) → Table → List Lexeme → Place → ℕ → (Inside → ℕ → List Phrase → List Piece → Type 0) → Type 0
Reached reads ops ts place now P =
    (layers : List Layer) × (j : Inside) × (from : ℕ) × (done : List Phrase) × (ps : List Piece) × At reads ops ts layers j from done ps place now × P j from done ps

-- the front of the operator, with any operand behind it, has no reading
abbrev pub HasNoReading : (ℕ → List Piece → Phrase → Type 0) → Inside → List Piece → Op → Type 0
HasNoReading reads j ps o = (x t : Phrase) → ¬ reads (most j) (ps ++ Operator o ∷ Operand x ∷ []) t

-- the first fault, and the token that it names
abbrev pub IsClauseFault : (ℕ → List Piece → Phrase → Type 0) → Table → List Lexeme → ClauseFault → Type 0
IsClauseFault reads ops ts (fault.NoTerm k) = Reached reads ops ts operand_place k (λ j from done ps. begins ops ts k ≡ Nothing)
IsClauseFault reads ops ts (fault.Wide k) = Reached reads ops ts operand_place k (λ j from done ps. begins ops ts k ≡ Wide)
IsClauseFault reads ops ts (fault.Stray k) = Reached reads ops ts operator_place k (λ j from done ps. goes ops j ts k ≡ Stray)
IsClauseFault reads ops ts (fault.Unclosed k) =
    (now : ℕ) × Reached reads ops ts operator_place now (λ j from done ps. (goes ops j ts now ≡ Unclosed) × (k ≡ from - 1))
IsClauseFault reads ops ts (fault.NoEnd k) =
    Reached reads ops ts operand_place k (λ j from done ps. begins ops ts k ≡ NoMore) ⊎ Reached reads ops ts operator_place k (λ j from done ps. goes ops j ts k ≡ Ends)
IsClauseFault reads ops ts (fault.Priority k) =
    Reached reads ops ts operand_place k (λ j from done ps. (o : Op) × (begins ops ts k ≡ Prefix o) × HasNoReading reads j ps o)
    ⊎ Reached reads ops ts operator_place k (λ j from done ps. (o : Op) × (goes ops j ts k ≡ Infix o) × HasNoReading reads j ps o)
IsClauseFault reads ops ts (fault.ArityOver k) =
    Reached reads ops ts operator_place k (λ j from done ps. (goes ops j ts k ≡ Separates) × (¬ HasRoom j done))
IsClauseFault reads ops ts fault.Memory = Unit {0}

-- the clause's phrase and the place behind its end, or the first fault
abbrev pub IsReading : (ℕ → List Piece → Phrase → Type 0) → Table → List Lexeme → Result Whole ClauseFault → Type 0
IsReading reads ops ts (Ok w) = Fills reads ops ts Clause 0 w.phrase w.next
IsReading reads ops ts (Err e) = IsClauseFault reads ops ts e

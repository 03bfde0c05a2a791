-- What reads has fronts that read; and so a text has one answer.
use Rattle.std.proofs.Common.{◌≡◌, ℕ, ◌≤◌, Result, Err, List, [], ◌∷◌, ◌++◌, refl, sym, ◌∙◌, subst, append_assoc, arith}
use Rattle.std.proofs.lemmas.List.{append-nil}
use Rattle.apd_read.specs.declared.phrase.Phrase.{Phrase}
use Rattle.apd_ops.specs.declared.op.Op.{Op}
use Rattle.apd_ops.specs.Table.{Table, IsTable}
use Rattle.apd_read.specs.declared.lexeme.Lexeme.{Lexeme}
use Rattle.apd_read.specs.Reading.{Piece, Operand, Operator}
use Rattle.apd_read.specs.declared.brackets.Whole.{Whole}
use Rattle.apd_read.specs.declared.brackets.ClauseFault.{ClauseFault}
use Rattle.apd_read.specs.declared.brackets.ClauseFault.TheVariants as fault
use Rattle.apd_ops.specs.Operators.{left_of}
use Rattle.apd_read.specs.Phrases.{unary, binary}
use Rattle.apd_read.specs.Reading.{Reads, one_operand, by_prefix, by_infix, Splits}
use Rattle.apd_read.specs.Clause.{FrontsRead, no_front, past_operand, past_operator, IsReading}
use Rattle.apd_read.proofs.Grammar.{meets, at_one, earlier, later, no_operator, not_before_first, left_at_most, Splits-unique, Reads_from_Splits}
use Rattle.apd_read.proofs.Pushing.{raised}
use Rattle.apd_read.proofs.ByMain.{from_scans, fronts_by_main}
use Rattle.apd_read.proofs.Once.{reading_once}

abbrev pub SomeReads : ℕ → List Piece → Type 0
SomeReads m ps = (u : Phrase) × Reads m ps u

-- the front of an operator of what reads, reads
pub front_reads : {m : ℕ} {ps : List Piece} {t : Phrase} → Reads m ps t → (us : List Piece) (o : Op) (vs : List Piece) → ps ≡ us ++ Operator o ∷ vs
    → (x : Phrase) → (u : Phrase) × Reads m (us ++ Operator o ∷ Operand x ∷ []) u
front_reads (one_operand {t = t}) us o vs e x = absurd (no_operator t us o vs e)
front_reads {m} (by_prefix r {rs} k l b) us o vs e x = elim (meets [] r rs us o vs e) [
  | at_one f g h ↦
      subst (λ w. SomeReads m (w ++ Operator o ∷ Operand x ∷ [])) f
      (subst (λ (w : Op). SomeReads m (Operator w ∷ Operand x ∷ [])) g (unary r x, by_prefix r k l one_operand))
  | earlier ys f g ↦
      let y = front_reads b ys o vs g x in
      subst (λ w. SomeReads m (w ++ Operator o ∷ Operand x ∷ [])) (sym f) (unary r y.0, by_prefix r k l y.1)
  | later ys f g ↦ absurd (not_before_first us o ys f)
]
front_reads {m} (by_infix ls r rs {a = ta} k l a b) us o vs e x = elim (meets ls r rs us o vs e) [
  | at_one f g h ↦
      subst (λ w. SomeReads m (w ++ Operator o ∷ Operand x ∷ [])) f
      (subst (λ (w : Op). SomeReads m (ls ++ Operator w ∷ Operand x ∷ [])) g (binary r ta x, by_infix ls r (Operand x ∷ []) k l a one_operand))
  | earlier ys f g ↦
      let y = front_reads b ys o vs g x in
      subst (λ w. SomeReads m (w ++ Operator o ∷ Operand x ∷ [])) (sym f)
      (subst (SomeReads m) (sym (append_assoc ls (Operator r ∷ ys) (Operator o ∷ Operand x ∷ [])))
      (binary r ta y.0, by_infix ls r (ys ++ Operator o ∷ Operand x ∷ []) k l a y.1))
  | later ys f g ↦
      let y = front_reads a us o ys f x in
      let z : left_of r ≤ r.priority = left_at_most r in
      (y.0, raised m (omega arith) y.1)
]

fronts_along : {m : ℕ} {ps : List Piece} {t : Phrase} → Reads m ps t → (us vs : List Piece) → ps ≡ us ++ vs → FrontsRead Reads m us → FrontsRead Reads m ps
fronts_along {m} r us [] e f = subst (FrontsRead Reads m) (sym (append-nil us) ∙ sym e) f
fronts_along {m} r us (Operand x ∷ vs) e f =
    fronts_along r (us ++ Operand x ∷ []) vs (e ∙ sym (append_assoc us (Operand x ∷ []) vs)) (past_operand x f)
fronts_along {m} r us (Operator o ∷ vs) e f =
    fronts_along r (us ++ Operator o ∷ []) vs (e ∙ sym (append_assoc us (Operator o ∷ []) vs)) (past_operator o f (front_reads r us o vs e))

pub fronts_of : {m : ℕ} {ps : List Piece} {t : Phrase} → Reads m ps t → FrontsRead Reads m ps
fronts_of {ps = ps} r = fronts_along r [] ps refl no_front

-- in a table without a clash, two answers that are not want of memory are the same
pub only_answer : (ops : Table) (ts : List Lexeme) (r q : Result Whole ClauseFault) → IsTable ops → IsReading Splits ops ts r → IsReading Splits ops ts q → (r ≡ Err fault.Memory → ⊥) → (q ≡ Err fault.Memory → ⊥) → r ≡ q
only_answer ops ts r q c a b m n =
    reading_once Splits ops ts
    (λ p k from at ps place t u s x y. Splits-unique x y refl)
    (λ p k from at ps place t s x. fronts_by_main c (from_scans c s) (fronts_of (Reads_from_Splits x)))
    r q a b m n

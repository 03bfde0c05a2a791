-- In a table without a clash, reading by the grammar is reading by the main operators.
use Rattle.std.proofs.Common.{◌≡◌, ℕ, ◌≤◌, Some, inl, inr, Result, Ok, Err, List, [], ◌∷◌, ◌++◌, refl, subst, sym, ◌∙◌, ap, true≢false}
use Rattle.apd_read.specs.declared.phrase.Phrase.{Phrase}
use Rattle.apd_ops.specs.declared.op.Op.{Op}
use Rattle.apd_ops.specs.declared.op.OpKind.TheVariants.{Yfx}
use Rattle.apd_ops.specs.Operators.{is_prefix_kind}
use Rattle.apd_ops.specs.Table.{Table, IsTable, infix_in}
use Rattle.apd_read.specs.declared.lexeme.Lexeme.{Lexeme}
use Rattle.apd_read.specs.Reading.{Piece, Operand, Operator}
use Rattle.apd_read.specs.declared.places.Inside.{Inside}
use Rattle.apd_read.specs.declared.places.Begin.TheVariants.{Prefix}
use Rattle.apd_read.specs.declared.places.Go.TheVariants.{Infix}
use Rattle.apd_read.specs.declared.brackets.Whole.{Whole}
use Rattle.apd_read.specs.declared.brackets.ClauseFault.{ClauseFault}
use Rattle.apd_read.specs.declared.brackets.ClauseFault.TheVariants as fault
use Rattle.apd_read.specs.Reading.{Reads, Splits, Stands, Clash, HasNoClash}
use Rattle.apd_read.specs.Clause.{Place, Scans, item_begins, then_word, then_bracket, then_prefix, then_infix, Elements, no_element, then_element, then_tail, Fills, filled, FrontsRead, no_front, past_operand, past_operator, Layer, Under, outermost, deeper, At, Reached, HasNoReading, IsReading}
use Rattle.apd_read.proofs.Grammar.{Stands-append, Stands-left, Splits_from_Reads, Reads_from_Splits}
use Rattle.apd_read.proofs.Tables.{IsIn, begins_sound, goes_sound}

-- the operators of pieces are the table's
pub record FromTable (ops : Table) (ps : List Piece) : Type 0 where
  pub all : (o : Op) → Stands o ps → IsIn o ops

none_yet : (ops : Table) → FromTable ops []
none_yet ops = record { all = λ o s. absurd s }

with_operand : (ops : Table) (ps : List Piece) (t : Phrase) → FromTable ops ps → FromTable ops (ps ++ Operand t ∷ [])
with_operand ops ps t h = record { all = λ o s. elim (Stands-append o ps (Operand t ∷ []) s) [ inl a ↦ h.all o a | inr b ↦ absurd b ] }

with_operator : (ops : Table) (ps : List Piece) (q : Op) → IsIn q ops → FromTable ops ps → FromTable ops (ps ++ Operator q ∷ [])
with_operator ops ps q i h = record {
  all = λ o s. elim (Stands-append o ps (Operator q ∷ []) s) [
    | inl a ↦ h.all o a
    | inr b ↦ elim b [ inl e ↦ subst (λ (w : Op). IsIn w ops) e i | inr z ↦ absurd z ]
  ];
}

with_front : (ops : Table) (ps : List Piece) (q : Op) (x : Phrase) → FromTable ops (ps ++ Operator q ∷ []) → FromTable ops (ps ++ Operator q ∷ Operand x ∷ [])
with_front ops ps q x h = record {
  all = λ o s. elim (Stands-append o ps (Operator q ∷ Operand x ∷ []) s) [
    | inl a ↦ h.all o (Stands-left o ps (Operator q ∷ []) a)
    | inr b ↦ elim b [ inl e ↦ h.all o (subst (λ (w : Op). Stands w (ps ++ Operator q ∷ [])) e (here ps q)) | inr z ↦ absurd z ]
  ];
}
  where
    here : (xs : List Piece) (r : Op) → Stands r (xs ++ Operator r ∷ [])
    here [] r = inl refl
    here (Operand t ∷ xs) r = here xs r
    here (Operator y ∷ xs) r = inr (here xs r)

pub from_scans : {reads : ℕ → List Piece → Phrase → Type 0} {ops : Table} {ts : List Lexeme} {k : Inside} {from at : ℕ} {ps : List Piece} {place : Place}
    → IsTable ops → Scans reads ops ts k from ps place at → FromTable ops ps
from_scans {ops} c item_begins = none_yet ops
from_scans {ops} c (then_word {ps} t n s e) = with_operand ops ps t (from_scans c s)
from_scans {ops} c (then_bracket {ps} j n t s e f) = with_operand ops ps t (from_scans c s)
from_scans {ops} {ts} c (then_prefix {at} {ps} o s e) = with_operator ops ps o (begins_sound ops ts at (Prefix o) c e).1 (from_scans c s)
from_scans {ops} {ts} c (then_infix {k} {at} {ps} o s e) = with_operator ops ps o (goes_sound ops k ts at (Infix o) c e).1 (from_scans c s)

positive_in : (ops : Table) (o : Op) → IsTable ops → IsIn o ops → 1 ≤ o.priority
positive_in ops o c i = elim i [ inl p ↦ (c.prefixes_are o.name.0 (o.priority, o.kind) p).1 | inr f ↦ (c.infixes_are o.name.0 (o.priority, o.kind) f).1 ]

-- a yfx operator is an infix one
infix_yfx : (ops : Table) (q : Op) → IsTable ops → IsIn q ops → q.kind ≡ Yfx → infix_in ops q.name.0 ≡ Some (q.priority, q.kind)
infix_yfx ops q c i e = elim i [
  | inl p ↦ absurd (true≢false (sym (c.prefixes_are q.name.0 (q.priority, q.kind) p).0 ∙ ap is_prefix_kind e))
  | inr f ↦ f
]

apart_in : (ops : Table) (o q : Op) → IsTable ops → IsIn o ops → IsIn q ops → Clash o q → ⊥
apart_in ops o q c i j clash = c.apart (record {
  name = o.name.0;
  left = q.name.0;
  meaning = (o.priority, o.kind);
  grouping = (q.priority, q.kind);
  is_meaning = i;
  is_infix = infix_yfx ops q c j clash.to_left;
  clash = record { same = clash.same; to_right = clash.to_right; to_left = clash.to_left };
})

pub no_clash : {ops : Table} {ps : List Piece} → IsTable ops → FromTable ops ps → HasNoClash ps
no_clash {ops} c h = record {
  positive = λ o s. positive_in ops o c (h.all o s);
  apart = λ o q s r clash. apart_in ops o q c (h.all o s) (h.all q r) clash;
}

mutual
  pub scans_by_main : {ops : Table} {ts : List Lexeme} {k : Inside} {from at : ℕ} {ps : List Piece} {place : Place}
      → IsTable ops → Scans Reads ops ts k from ps place at → Scans Splits ops ts k from ps place at
  scans_by_main c item_begins = item_begins
  scans_by_main c (then_word t n s e) = then_word t n (scans_by_main c s) e
  scans_by_main c (then_bracket j n t s e f) = then_bracket j n t (scans_by_main c s) e (fills_by_main c f)
  scans_by_main c (then_prefix o s e) = then_prefix o (scans_by_main c s) e
  scans_by_main c (then_infix o s e) = then_infix o (scans_by_main c s) e

  elements_by_main : {ops : Table} {ts : List Lexeme} {k j : Inside} {from at : ℕ} {done : List Phrase}
      → IsTable ops → Elements Reads ops ts k from j done at → Elements Splits ops ts k from j done at
  elements_by_main c no_element = no_element
  elements_by_main c (then_element t e s g r h) = then_element t (elements_by_main c e) (scans_by_main c s) g (Splits_from_Reads (no_clash c (from_scans c s)) r) h
  elements_by_main c (then_tail t e s g r) = then_tail t (elements_by_main c e) (scans_by_main c s) g (Splits_from_Reads (no_clash c (from_scans c s)) r)

  pub fills_by_main : {ops : Table} {ts : List Lexeme} {k : Inside} {from next : ℕ} {t : Phrase}
      → IsTable ops → Fills Reads ops ts k from t next → Fills Splits ops ts k from t next
  fills_by_main c (filled t e s g r) = filled t (elements_by_main c e) (scans_by_main c s) g (Splits_from_Reads (no_clash c (from_scans c s)) r)

-- the table's operators are in the front of each
pub fronts_by_main : {ops : Table} {m : ℕ} {ps : List Piece} → IsTable ops → FromTable ops ps → FrontsRead Reads m ps → FrontsRead Splits m ps
fronts_by_main c h no_front = no_front
fronts_by_main {ops} c h (past_operand {ps} t f) =
    past_operand t (fronts_by_main c (record { all = λ o s. h.all o (Stands-left o ps (Operand t ∷ []) s) }) f)
fronts_by_main {ops} c h (past_operator {ps} o f r) =
    past_operator o (fronts_by_main c (record { all = λ q s. h.all q (Stands-left q ps (Operator o ∷ []) s) }) f)
    (λ x. let y = r x in (y.0, Splits_from_Reads (no_clash c (with_front ops ps o x h)) y.1))

under_by_main : {ops : Table} {ts : List Lexeme} {layers : List Layer} {k : Inside} {from : ℕ} → IsTable ops → Under Reads ops ts layers k from → Under Splits ops ts layers k from
under_by_main c outermost = outermost
under_by_main c (deeper i n u e s f b) = deeper i n (under_by_main c u) (elements_by_main c e) (scans_by_main c s) (fronts_by_main c (from_scans c s) f) b

at_by_main : {ops : Table} {ts : List Lexeme} {layers : List Layer} {j : Inside} {from : ℕ} {done : List Phrase} {ps : List Piece} {place : Place} {now : ℕ}
    → IsTable ops → At Reads ops ts layers j from done ps place now → At Splits ops ts layers j from done ps place now
at_by_main c a = record {
  kind = a.kind;
  start = a.start;
  under = under_by_main c a.under;
  elements = elements_by_main c a.elements;
  scans = scans_by_main c a.scans;
  fine = fronts_by_main c (from_scans c a.scans) a.fine;
}

reached_by_main : {ops : Table} {ts : List Lexeme} {place : Place} {now : ℕ} (P : Inside → ℕ → List Phrase → List Piece → Type 0)
    → IsTable ops → Reached Reads ops ts place now P → Reached Splits ops ts place now P
reached_by_main P c r = (r.0, r.1, r.2, r.3, r.4, at_by_main c r.5, r.6)

no_reading_by_main : (j : Inside) (ps : List Piece) (o : Op) → HasNoReading Reads j ps o → HasNoReading Splits j ps o
no_reading_by_main j ps o h x t s = h x t (Reads_from_Splits s)

pub reading_by_main : (ops : Table) (ts : List Lexeme) (r : Result Whole ClauseFault) → IsTable ops → IsReading Reads ops ts r → IsReading Splits ops ts r
reading_by_main ops ts (Ok r) c h = fills_by_main c h
reading_by_main ops ts (Err (fault.NoTerm k)) c h = reached_by_main _ c h
reading_by_main ops ts (Err (fault.Wide k)) c h = reached_by_main _ c h
reading_by_main ops ts (Err (fault.Stray k)) c h = reached_by_main _ c h
reading_by_main ops ts (Err (fault.Unclosed k)) c h = (h.0, reached_by_main _ c h.1)
reading_by_main ops ts (Err (fault.NoEnd k)) c h = elim h [ inl a ↦ inl (reached_by_main _ c a) | inr b ↦ inr (reached_by_main _ c b) ]
reading_by_main ops ts (Err (fault.Priority k)) c h = elim h [
  | inl a ↦ inl (a.0, a.1, a.2, a.3, a.4, at_by_main c a.5, (a.6.0, a.6.1, no_reading_by_main a.1 a.4 a.6.0 a.6.2))
  | inr b ↦ inr (b.0, b.1, b.2, b.3, b.4, at_by_main c b.5, (b.6.0, b.6.1, no_reading_by_main b.1 b.4 b.6.0 b.6.2))
]
reading_by_main ops ts (Err (fault.ArityOver k)) c h = reached_by_main _ c h
reading_by_main ops ts (Err fault.Memory) c h = tt

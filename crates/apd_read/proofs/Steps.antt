-- The reader's steps: from a state before one token to the state before the next.
use Rattle.std.proofs.Common.{◌≡◌, ℕ, ◌-◌, ◌+◌, ◌<◌, inl, inr, true, false, Option, Some, None, List, [], ◌∷◌, ◌++◌, length, refl, sym, subst, arith}
use Rattle.apd_read.specs.declared.phrase.Phrase.{Phrase}
use Rattle.apd_ops.specs.declared.op.Op.{Op}
use Rattle.apd_ops.specs.Table.{Table, IsTable}
use Rattle.apd_read.specs.declared.lexeme.Lexeme.{Lexeme}
use Rattle.apd_read.specs.Reading.{Piece, Operand, Operator}
use Rattle.apd_read.specs.declared.frames.OperatorFrame.{OperatorFrame}
use Rattle.apd_read.specs.declared.places.Inside.{Inside}
use Rattle.apd_read.specs.declared.places.Inside.TheVariants.{Clause, Paren, Curly, Args, Listing, Tail}
use Rattle.apd_read.specs.declared.places.Begin.TheVariants.{Word, Opens, Prefix, NoMore}
use Rattle.apd_read.specs.declared.places.Go.TheVariants.{Infix, Separates, Turns, Closes, Unclosed, Ends}
use Rattle.apd_read.specs.declared.brackets.Level.{Level}
use Rattle.apd_read.specs.declared.brackets.ReadSoFar.{ReadSoFar}
use Rattle.apd_read.specs.declared.brackets.ClauseFault.TheVariants as fault
use Rattle.apd_read.specs.Reading.{Reads, one_operand}
use Rattle.apd_read.specs.Holds.{Holds, no_frame, prefix_on}
use Rattle.apd_read.specs.Stack.{closed, reduced, PutsPrefix, PutsInfix}
use Rattle.apd_read.specs.Places.{begins, goes}
use Rattle.apd_read.specs.Clause.{operator_place, most, made, HasRoom, HasAtMost, item_begins, then_word, then_bracket, then_prefix, then_infix, Elements, no_element, then_element, then_tail, Fills, filled, no_front, past_operand, past_operator, Layer, Under, outermost, deeper, At, IsClauseFault}
use Rattle.apd_read.specs.State.{AreHeld, IsReady, IsLater}
use Rattle.apd_read.proofs.Pushing.{closed_reads, prefix_fault, infix_conflict, IsReduced, operand_reduces, infix_held, held_fine}
use Rattle.apd_read.proofs.Tables.{begins_sound, goes_sound, begins_within, goes_within}

-- nothing is read at the first token
pub start_ready : (ops : Table) (ts : List Lexeme) → IsTable ops → IsReady ops ts (record { outer = []; level = record { inside = Clause; from = 0; done = []; frames = [] }; at = 0 }) None
start_ready ops ts table = record {
  table = table;
  layers = [];
  pieces = [];
  reached = record { kind = Clause; start = 0; under = outermost; elements = no_element; scans = item_begins; fine = no_front };
  scanned = no_frame;
  outer = tt;
  within = omega arith;
}

pub word_ready : (ops : Table) (ts : List Lexeme) (s : ReadSoFar) (t : Phrase) (n : ℕ) → IsReady ops ts s None → begins ops ts s.at ≡ Word t n
    → IsReady ops ts (record { outer = s.outer; level = s.level; at = s.at + n }) (Some t) × IsLater ts s.at (s.at + n)
word_ready ops ts s t n r e =
    let a = r.reached in
    let size = begins_sound ops ts s.at (Word t n) r.table e in
    let l : s.at < length ts = begins_within ops ts s.at (Word t n) e (λ f. let g : NoMore ≡ Word t n = f in cc) in (
      record {
        table = r.table;
        layers = r.layers;
        pieces = r.pieces ++ Operand t ∷ [];
        reached = record { kind = a.kind; start = a.start; under = a.under; elements = a.elements; scans = then_word t n a.scans e; fine = past_operand t a.fine };
        scanned = (r.pieces, r.scanned, refl);
        outer = r.outer;
        within = omega (arith, size.1);
      },
      (l, omega (arith, size.0)),
    )

pub open_ready : (ops : Table) (ts : List Lexeme) (s : ReadSoFar) (j : Inside) (n : ℕ) → IsReady ops ts s None → begins ops ts s.at ≡ Opens j n
    → IsReady ops ts (record { outer = s.level ∷ s.outer; level = record { inside = j; from = s.at + n; done = []; frames = [] }; at = s.at + n }) None × IsLater ts s.at (s.at + n)
open_ready ops ts s j n r e =
    let a = r.reached in
    let size = begins_sound ops ts s.at (Opens j n) r.table e in
    let l : s.at < length ts = begins_within ops ts s.at (Opens j n) e (λ f. let g : NoMore ≡ Opens j n = f in cc) in (
      record {
        table = r.table;
        layers = record { kind = s.level.inside; from = s.level.from; done = s.level.done; pieces = r.pieces } ∷ r.layers;
        pieces = [];
        reached = record {
          kind = j;
          start = s.at + n;
          under = deeper j n a.under a.elements a.scans a.fine e;
          elements = no_element;
          scans = item_begins;
          fine = no_front;
        };
        scanned = no_frame;
        outer = (refl, refl, refl, r.scanned, r.outer);
        within = omega (arith, size.1);
      },
      (l, omega (arith, size.0)),
    )

pub prefix_ready : (ops : Table) (ts : List Lexeme) (s : ReadSoFar) (o : Op) (gs : List OperatorFrame) → IsReady ops ts s None → begins ops ts s.at ≡ Prefix o
    → PutsPrefix (most s.level.inside) o s.level.frames true gs
    → IsReady ops ts (record { outer = s.outer; level = record { inside = s.level.inside; from = s.level.from; done = s.level.done; frames = gs }; at = s.at + 1 }) None × IsLater ts s.at (s.at + 1)
prefix_ready ops ts s o gs r e p =
    let a = r.reached in
    let l : s.at < length ts = begins_within ops ts s.at (Prefix o) e (λ f. let g : NoMore ≡ Prefix o = f in cc) in
    let h : Holds (most s.level.inside) gs (r.pieces ++ Operator o ∷ []) =
    subst (λ w. Holds (most s.level.inside) w (r.pieces ++ Operator o ∷ [])) (sym p.1) (prefix_on o r.scanned (begins_sound ops ts s.at (Prefix o) r.table e).0 p.0) in (
      record {
        table = r.table;
        layers = r.layers;
        pieces = r.pieces ++ Operator o ∷ [];
        reached = record {
          kind = a.kind;
          start = a.start;
          under = a.under;
          elements = a.elements;
          scans = then_prefix o a.scans e;
          fine = past_operator o a.fine (held_fine r.pieces o h);
        };
        scanned = h;
        outer = r.outer;
        within = omega arith;
      },
      (l, omega arith),
    )

pub prefix_faulty : (ops : Table) (ts : List Lexeme) (s : ReadSoFar) (o : Op) (gs : List OperatorFrame) → IsReady ops ts s None → begins ops ts s.at ≡ Prefix o
    → PutsPrefix (most s.level.inside) o s.level.frames false gs → IsClauseFault Reads ops ts (fault.Priority s.at)
prefix_faulty ops ts s o gs r e p =
    inl (r.layers, s.level.inside, s.level.from, s.level.done, r.pieces, r.reached, (o, e, prefix_fault r.scanned o (begins_sound ops ts s.at (Prefix o) r.table e).0 p))

-- the pieces end with the last operand
reduced_pieces : (ops : Table) (ts : List Lexeme) (s : ReadSoFar) (t : Phrase) (o : Op) → (r : IsReady ops ts s (Some t))
    → IsReduced (most s.level.inside) o r.pieces (reduced o s.level.frames t).0 (reduced o s.level.frames t).1
reduced_pieces ops ts s t o r =
    subst (λ w. IsReduced (most s.level.inside) o w (reduced o s.level.frames t).0 (reduced o s.level.frames t).1) (sym r.scanned.2) (operand_reduces r.scanned.1 o t)

pub infix_ready : (ops : Table) (ts : List Lexeme) (s : ReadSoFar) (t : Phrase) (o : Op) (gs : List OperatorFrame) → IsReady ops ts s (Some t) → goes ops s.level.inside ts s.at ≡ Infix o
    → PutsInfix (most s.level.inside) o s.level.frames t true gs
    → IsReady ops ts (record { outer = s.outer; level = record { inside = s.level.inside; from = s.level.from; done = s.level.done; frames = gs }; at = s.at + 1 }) None × IsLater ts s.at (s.at + 1)
infix_ready ops ts s t o gs r e p =
    let a = r.reached in
    let l : s.at < length ts = goes_within ops s.level.inside ts s.at (Infix o) e (λ f. let g : Ends ≡ Infix o = f in cc) in
    let h : Holds (most s.level.inside) gs (r.pieces ++ Operator o ∷ []) =
    subst (λ w. Holds (most s.level.inside) w (r.pieces ++ Operator o ∷ [])) (sym p.1)
    (infix_held (reduced_pieces ops ts s t o r) (goes_sound ops s.level.inside ts s.at (Infix o) r.table e).0 p.0) in (
      record {
        table = r.table;
        layers = r.layers;
        pieces = r.pieces ++ Operator o ∷ [];
        reached = record {
          kind = a.kind;
          start = a.start;
          under = a.under;
          elements = a.elements;
          scans = then_infix o a.scans e;
          fine = past_operator o a.fine (held_fine r.pieces o h);
        };
        scanned = h;
        outer = r.outer;
        within = omega arith;
      },
      (l, omega arith),
    )

pub infix_faulty : (ops : Table) (ts : List Lexeme) (s : ReadSoFar) (t : Phrase) (o : Op) (gs : List OperatorFrame) → IsReady ops ts s (Some t) → goes ops s.level.inside ts s.at ≡ Infix o
    → PutsInfix (most s.level.inside) o s.level.frames t false gs → IsClauseFault Reads ops ts (fault.Priority s.at)
infix_faulty ops ts s t o gs r e p =
    inr (r.layers, s.level.inside, s.level.from, s.level.done, r.pieces, r.reached, (o, e, infix_conflict (reduced_pieces ops ts s t o r) p))

-- the innermost item is a term
item_reads : (ops : Table) (ts : List Lexeme) (s : ReadSoFar) (t : Phrase) → (r : IsReady ops ts s (Some t)) → Reads (most s.level.inside) r.pieces (closed s.level.frames t)
item_reads ops ts s t r =
    subst (λ w. Reads (most s.level.inside) w (closed s.level.frames t)) (sym r.scanned.2) (closed_reads r.scanned.1 (Operand t ∷ []) t one_operand)

pub element_ready : (ops : Table) (ts : List Lexeme) (s : ReadSoFar) (t : Phrase) → IsReady ops ts s (Some t) → goes ops s.level.inside ts s.at ≡ Separates
    → HasRoom s.level.inside s.level.done
    → IsReady ops ts (record { outer = s.outer; level = record { inside = s.level.inside; from = s.level.from; done = closed s.level.frames t ∷ s.level.done; frames = [] }; at = s.at + 1 }) None × IsLater ts s.at (s.at + 1)
element_ready ops ts s t r e room =
    let a = r.reached in
    let l : s.at < length ts = goes_within ops s.level.inside ts s.at Separates e (λ f. let g : Ends ≡ Separates = f in cc) in (
      record {
        table = r.table;
        layers = r.layers;
        pieces = [];
        reached = record {
          kind = a.kind;
          start = s.at + 1;
          under = a.under;
          elements = then_element (closed s.level.frames t) a.elements a.scans e (item_reads ops ts s t r) room;
          scans = item_begins;
          fine = no_front;
        };
        scanned = no_frame;
        outer = r.outer;
        within = omega arith;
      },
      (l, omega arith),
    )

pub tail_ready : (ops : Table) (ts : List Lexeme) (s : ReadSoFar) (t : Phrase) → IsReady ops ts s (Some t) → goes ops s.level.inside ts s.at ≡ Turns
    → IsReady ops ts (record { outer = s.outer; level = record { inside = Tail; from = s.level.from; done = closed s.level.frames t ∷ s.level.done; frames = [] }; at = s.at + 1 }) None × IsLater ts s.at (s.at + 1)
tail_ready ops ts s t r e =
    let a = r.reached in
    let l : s.at < length ts = goes_within ops s.level.inside ts s.at Turns e (λ f. let g : Ends ≡ Turns = f in cc) in (
      record {
        table = r.table;
        layers = r.layers;
        pieces = [];
        reached = record {
          kind = a.kind;
          start = s.at + 1;
          under = a.under;
          elements = then_tail (closed s.level.frames t) a.elements a.scans e (item_reads ops ts s t r);
          scans = item_begins;
          fine = no_front;
        };
        scanned = no_frame;
        outer = r.outer;
        within = omega arith;
      },
      (l, omega arith),
    )

-- no more than 254 arguments stand before the last
few_at_first : (k : Inside) → HasAtMost k []
few_at_first Clause = tt
few_at_first Paren = tt
few_at_first Curly = tt
few_at_first (Args f) = omega arith
few_at_first Listing = tt
few_at_first Tail = tt

few_more : (k : Inside) (done : List Phrase) (t : Phrase) → HasRoom k done → HasAtMost k (t ∷ done)
few_more Clause done t h = tt
few_more Paren done t h = tt
few_more Curly done t h = tt
few_more (Args f) done t h = omega arith
few_more Listing done t h = tt
few_more Tail done t h = tt

few : {ops : Table} {ts : List Lexeme} {k j : Inside} {from at : ℕ} {done : List Phrase} → Elements Reads ops ts k from j done at → HasAtMost j done
few (no_element {k}) = few_at_first k
few (then_element {j} {done} t e s g r h) = few_more j done t h
few (then_tail t e s g r) = tt

pub few_elements : (ops : Table) (ts : List Lexeme) (s : ReadSoFar) (last : Option Phrase) → IsReady ops ts s last → HasAtMost s.level.inside s.level.done
few_elements ops ts s last r = few r.reached.elements

item_fills : (ops : Table) (ts : List Lexeme) (s : ReadSoFar) (t : Phrase) → (r : IsReady ops ts s (Some t)) → goes ops s.level.inside ts s.at ≡ Closes
    → Fills Reads ops ts r.reached.kind s.level.from (made s.level.inside s.level.done (closed s.level.frames t)) (s.at + 1)
item_fills ops ts s t r e = filled (closed s.level.frames t) r.reached.elements r.reached.scans e (item_reads ops ts s t r)

clause_at_zero : {ops : Table} {ts : List Lexeme} {layers : List Layer} {k : Inside} {from : ℕ} → Under Reads ops ts layers k from → AreHeld [] layers
    → (v : Phrase) (next : ℕ) → Fills Reads ops ts k from v next → Fills Reads ops ts Clause 0 v next
clause_at_zero outermost h v next f = f
clause_at_zero (deeper i n u e s fine b) h v next f = absurd h

pub close_done : (ops : Table) (ts : List Lexeme) (s : ReadSoFar) (t : Phrase) → IsReady ops ts s (Some t) → goes ops s.level.inside ts s.at ≡ Closes → s.outer ≡ []
    → Fills Reads ops ts Clause 0 (made s.level.inside s.level.done (closed s.level.frames t)) (s.at + 1)
close_done ops ts s t r e o =
    clause_at_zero r.reached.under (subst (λ w. AreHeld w r.layers) o r.outer) (made s.level.inside s.level.done (closed s.level.frames t)) (s.at + 1) (item_fills ops ts s t r e)

-- the bracket below, with this one as its last operand
record IsPopped (ops : Table) (ts : List Lexeme) (l : Level) (ls : List Level) (v : Phrase) (next : ℕ) : Type 0 where
  layers : List Layer
  pieces : List Piece
  reached : At Reads ops ts layers l.inside l.from l.done (pieces ++ Operand v ∷ []) operator_place next
  scanned : Holds (most l.inside) l.frames pieces
  outer : AreHeld ls layers

popped : {ops : Table} {ts : List Lexeme} {layers : List Layer} {k : Inside} {from : ℕ} → Under Reads ops ts layers k from
    → (l : Level) (ls : List Level) → AreHeld (l ∷ ls) layers → (v : Phrase) (next : ℕ) → Fills Reads ops ts k from v next → IsPopped ops ts l ls v next
popped outermost l ls h v next f = absurd h
popped {ops} {ts} (deeper {layers = ys} {k} {j} {from} {at} {now} {done} {ps} i n u e s fine b) l ls h v next f =
    let a : At Reads ops ts ys j from done (ps ++ Operand v ∷ []) operator_place next =
    record { kind = k; start = at; under = u; elements = e; scans = then_bracket i n v s b f; fine = past_operand v fine } in
    record {
      layers = ys;
      pieces = ps;
      reached = subst (λ (w : Inside). At Reads ops ts ys w l.from l.done (ps ++ Operand v ∷ []) operator_place next) (sym h.0)
          (subst (λ (w : ℕ). At Reads ops ts ys j w l.done (ps ++ Operand v ∷ []) operator_place next) (sym h.1)
          (subst (λ w. At Reads ops ts ys j from w (ps ++ Operand v ∷ []) operator_place next) (sym h.2) a));
      scanned = subst (λ (w : Inside). Holds (most w) l.frames ps) (sym h.0) h.3;
      outer = h.4;
    }

pub close_ready : (ops : Table) (ts : List Lexeme) (s : ReadSoFar) (t : Phrase) (l : Level) (ls : List Level) → IsReady ops ts s (Some t)
    → goes ops s.level.inside ts s.at ≡ Closes → s.outer ≡ l ∷ ls
    → IsReady ops ts (record { outer = ls; level = l; at = s.at + 1 }) (Some (made s.level.inside s.level.done (closed s.level.frames t))) × IsLater ts s.at (s.at + 1)
close_ready ops ts s t l ls r e o =
    let h : s.at < length ts = goes_within ops s.level.inside ts s.at Closes e (λ f. let g : Ends ≡ Closes = f in cc) in
    let v = made s.level.inside s.level.done (closed s.level.frames t) in
    let p : IsPopped ops ts l ls v (s.at + 1) = popped r.reached.under l ls (subst (λ w. AreHeld w r.layers) o r.outer) v (s.at + 1) (item_fills ops ts s t r e) in (
      record {
        table = r.table;
        layers = p.layers;
        pieces = p.pieces ++ Operand v ∷ [];
        reached = p.reached;
        scanned = (p.pieces, p.scanned, refl);
        outer = p.outer;
        within = omega arith;
      },
      (h, omega arith),
    )

pub unclosed_faulty : (ops : Table) (ts : List Lexeme) (s : ReadSoFar) (t : Phrase) → IsReady ops ts s (Some t) → goes ops s.level.inside ts s.at ≡ Unclosed
    → (k : ℕ) → k ≡ s.level.from - 1 → IsClauseFault Reads ops ts (fault.Unclosed k)
unclosed_faulty ops ts s t r e k is = (s.at, (r.layers, s.level.inside, s.level.from, s.level.done, r.pieces, r.reached, (e, is)))

-- The names of a check's state are those of what was said: a run has no names but its query's and the program's.
use Rattle.std.proofs.Common.{ℕ, zero, suc, ◌+◌, List, [], ◌∷◌, ◌++◌, Option, None, Some}
use Rattle.std.specs.Prelude.{IfSome, slice_get}
use Rattle.std.specs.List.{AllByRecursion}
use Rattle.std.specs.Option.{unwrap_or}
use Rattle.apd_again.specs.Again.{answers_again}
use Rattle.apd_causes.specs.declared.run.Query.{Query}
use Rattle.apd_causes.specs.declared.run.Ran.{Ran}
use Rattle.apd_check.specs.Checked.{after_claim, history_after, made_again}
use Rattle.apd_check.specs.declared.state.LogState.{LogState}
use Rattle.apd_claims.specs.declared.claim.Claim.{Claim}
use Rattle.apd_claims.specs.declared.claim.Claim.TheVariants.{Runs, Ends, Tells, Asks, Replies, Finds, Descends, Nothing, Garbled}
use Rattle.apd_clauses.specs.Clauses.{tuples_of}
use Rattle.apd_clauses.specs.declared.clause.Clause.{Clause}
use Rattle.apd_ports.specs.declared.event.Event.{Event}
use Rattle.apd_ports.specs.declared.event.Port.{Port}
use Rattle.apd_ports.specs.declared.event.Port.TheVariants.{Call, Exit, Redo, Fail}
use Rattle.apd_record.specs.Reading.{call_atom, no_row}
use Rattle.apd_record.specs.Recorded.{Recorded, empty, noted, passed_at}
use Rattle.apd_record.specs.declared.rows.BoxRow.{BoxRow}
use Rattle.apd_recorded.specs.Told.{record_from, record_of, told, told_port}
use Rattle.apd_term.specs.Named.{AllTuplesNamed, IsNamed, TupleIsNamed}
use Rattle.apd_trace.specs.Named.{AllItemsNamed, ItemIsNamed}
use Rattle.apd_trace.specs.Trace.{trace}
use Rattle.apd_trace.specs.declared.item.Item.{Item}
use Rattle.apd_trace.specs.declared.item.Item.TheVariants.{Passed, Answer, Made, Error}
use Rattle.apd_trace.proofs.Named.{passed-named, trace_named}
use Rattle.apd_numbering.specs.Said.{ClaimIsNamed}

-- the atoms of the boxes have names among the first n
abbrev pub BoxesAreNamed : ℕ → List BoxRow → Type 0
BoxesAreNamed n bs = AllByRecursion (λ (b : BoxRow). IsNamed n b.atom) bs

pub record StateIsNamed (n : ℕ) (s : LogState) : Type 0 where
  pub query : IfSome s.query (λ q. TupleIsNamed n q.tuple)
  pub boxes : BoxesAreNamed n s.history.boxes

boxes-push : (n : ℕ) (bs : List BoxRow) (b : BoxRow) → BoxesAreNamed n bs → IsNamed n b.atom → BoxesAreNamed n (bs ++ b ∷ [])
boxes-push n [] b all i = (i, tt)
boxes-push n (c ∷ bs) b all i = (all.0, boxes-push n bs b all.1 i)

boxes-passed : (n : ℕ) (port : Port) (k : ℕ) (bs : List BoxRow) → BoxesAreNamed n bs → BoxesAreNamed n (passed_at port k bs)
boxes-passed n port k [] all = tt
boxes-passed n port zero (b ∷ bs) all = (all.0, all.1)
boxes-passed n port (suc k) (b ∷ bs) all = (all.0, boxes-passed n port k bs all.1)

noted-named : (n : ℕ) (R : Recorded) (k : ℕ) (port : Port) → BoxesAreNamed n R.boxes → BoxesAreNamed n (noted R k port).boxes
noted-named n R zero port all = all
noted-named n R (suc k) port all = boxes-passed n port k R.boxes all

port-named : (n : ℕ) (R : Recorded) (e : Event) (port : Port) → BoxesAreNamed n R.boxes → IsNamed n e.atom → BoxesAreNamed n (told_port R e port).boxes
port-named n R e Call all i = boxes-push n R.boxes _ all i
port-named n R e Exit all i = noted-named n R e.box_no Exit all
port-named n R e Redo all i = noted-named n R e.box_no Redo all
port-named n R e Fail all i = noted-named n R e.box_no Fail all

told-named : (n : ℕ) (R : Recorded) (x : Item) → BoxesAreNamed n R.boxes → ItemIsNamed n x → BoxesAreNamed n (told R x).boxes
told-named n R (Passed e) all i = port-named n R e e.port all i
told-named n R (Answer t) all i = all
told-named n R (Made p) all i = all
told-named n R (Error e b) all i = all

from-named : (n : ℕ) (R : Recorded) (xs : List Item) → BoxesAreNamed n R.boxes → AllItemsNamed n xs → BoxesAreNamed n (record_from R xs).boxes
from-named n R [] all i = all
from-named n R (x ∷ xs) all i = from-named n (told R x) xs (told-named n R x all i.0) i.1

again-named : (n : ℕ) (program : List Clause) (q : Query) (ran : Ran) → AllTuplesNamed n (tuples_of program) → TupleIsNamed n q.tuple → BoxesAreNamed n (record_of (made_again program q ran).passed).boxes
again-named n program q ran clauses query =
    from-named n empty (made_again program q ran).passed tt
    (passed-named n (trace (tuples_of program) q.tuple (ran.ports + 1)) ran.ports (answers_again ran.end ran.answers) (trace_named n (tuples_of program) q.tuple (ran.ports + 1) clauses query))

history-named : (n : ℕ) (program : List Clause) (o : Option Query) (ran : Ran) (R : Recorded) → AllTuplesNamed n (tuples_of program) → IfSome o (λ q. TupleIsNamed n q.tuple) → BoxesAreNamed n R.boxes
    → BoxesAreNamed n (history_after program o ran R).boxes
history-named n program None ran R clauses query all = all
history-named n program (Some q) ran R clauses query all = again-named n program q ran clauses query

-- the state behind what is said
pub after-named : (n : ℕ) (program : List Clause) (s : LogState) (c : Claim) → AllTuplesNamed n (tuples_of program) → StateIsNamed n s → ClaimIsNamed n c → StateIsNamed n (after_claim program s c)
after-named n program s (Runs q) clauses h i = record { query = i; boxes = tt }
after-named n program s (Ends ran) clauses h i = record { query = tt; boxes = history-named n program s.query ran s.history clauses h.query h.boxes }
after-named n program s (Tells question reply) clauses h i = record { query = h.query; boxes = h.boxes }
after-named n program s (Asks asked) clauses h i = record { query = h.query; boxes = h.boxes }
after-named n program s (Replies reply) clauses h i = record { query = h.query; boxes = h.boxes }
after-named n program s (Finds finding line) clauses h i = h
after-named n program s (Descends calls) clauses h i = h
after-named n program s Nothing clauses h i = h
after-named n program s Garbled clauses h i = h

-- the atom of a box
box-named : (n : ℕ) (bs : List BoxRow) (k : ℕ) → BoxesAreNamed n bs → IsNamed n (unwrap_or (slice_get bs k) no_row).atom
box-named n [] zero all = tt
box-named n [] (suc k) all = tt
box-named n (b ∷ bs) zero all = all.0
box-named n (b ∷ bs) (suc k) all = box-named n bs k all.1

pub call_atom-named : (n : ℕ) (R : Recorded) (k : ℕ) → BoxesAreNamed n R.boxes → IsNamed n (call_atom R k)
call_atom-named n R zero all = tt
call_atom-named n R (suc k) all = box-named n R.boxes k all

-- The record may be told what a run passes: a law of traces, of which the run needs this part.
use Rattle.std.proofs.Common.{◌≡◌, ℕ, zero, suc, List, [], ◌∷◌, arith, Some}
use Rattle.std.proofs.lemmas.Option.{slice_get_within}
use Rattle.apd_term.specs.declared.tuple.Tuple.{Tuple}
use Rattle.apd_clauses.specs.Clauses.{IsProgram, IsRunnable, tuples_of}
use Rattle.apd_clauses.specs.declared.clause.Clause.{Clause}
use Rattle.apd_clauses.proofs.Pure.{goals_are_atoms}
use Rattle.apd_ports.specs.declared.event.Event.{Event}
use Rattle.apd_ports.specs.declared.event.Port.{Port}
use Rattle.apd_ports.specs.declared.event.Port.TheVariants.{Call, Exit, Redo, Fail}
use Rattle.apd_trace.specs.Run.{query_run}
use Rattle.apd_trace.specs.declared.item.Item.{Item}
use Rattle.apd_trace.specs.declared.item.Item.TheVariants.{Passed, Answer, Made, Error}
use Rattle.apd_record.specs.Recorded.{Recorded, box_at, empty}
use Rattle.apd_record.specs.declared.rows.BoxRow.{BoxRow}
use Rattle.apd_recorded.specs.Told.{told, MayTake, May, MayPass as MayPassFor}
use Rattle.apd_recorded.proofs.Law.{run_taken}
use Rattle.apd_recorded.proofs.Recording.{program_clauses}
use Rattle.apd_engine.specs.Recording.{IsThere, MayPass, MayBeTold, MayBeToldAll}

there : (R : Recorded) (n : ℕ) (b : BoxRow) → box_at R n ≡ Some b → IsThere R n
there R zero b h = cc
there R (suc i) b h = (omega arith, omega (arith, slice_get_within R.boxes i b h))

may_pass : (P : List Tuple) (R : Recorded) (e : Event) (port : Port) → MayPassFor P R e port → MayPass R e port
may_pass P R e Call h = h.0
may_pass P R e Exit h = there R e.box_no h.box.0 h.box.1
may_pass P R e Redo h = there R e.box_no h.0 h.1
may_pass P R e Fail h = there R e.box_no h.0 h.1

may_tell : (P : List Tuple) (R : Recorded) (x : Item) → May P R x → MayBeTold R x
may_tell P R (Passed e) h = may_pass P R e e.port h.0
may_tell P R (Made p) h = h.0
may_tell P R (Answer a) h = tt
may_tell P R (Error e b) h = tt

may_tell_all : (P : List Tuple) (R : Recorded) (xs : List Item) → MayTake P R xs → MayBeToldAll R xs
may_tell_all P R [] h = tt
may_tell_all P R (x ∷ xs) h = (may_tell P R x h.0, may_tell_all P (told R x) xs h.1)

pub run_may_be_told : (cs : List Clause) (query : Tuple) (budget answers : ℕ) → IsProgram cs → IsRunnable query → MayBeToldAll empty (query_run (tuples_of cs) query budget answers).passed
run_may_be_told cs query budget answers program runnable =
    may_tell_all (tuples_of cs) empty (query_run (tuples_of cs) query budget answers).passed (run_taken (tuples_of cs) (program_clauses cs program) query (goals_are_atoms query.body runnable.goals) budget answers)

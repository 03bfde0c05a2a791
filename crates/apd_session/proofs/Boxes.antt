-- The record of a run has no more boxes than the run may pass ports.
use Rattle.std.proofs.Common.{ℕ, ◌+◌, ◌-◌, ◌≤◌, List, [], ◌∷◌, ◌++◌, length, length-append, refl, arith}
use Rattle.apd_ports.specs.declared.event.Event.{Event}
use Rattle.apd_ports.specs.declared.event.Port.{Port}
use Rattle.apd_ports.specs.declared.event.Port.TheVariants.{Call, Exit, Redo, Fail}
use Rattle.apd_record.specs.Recorded.{Recorded, called_row, empty}
use Rattle.apd_recorded.specs.Told.{record_from, record_of, told_port}
use Rattle.apd_recorded.proofs.State.{noted_boxes}
use Rattle.apd_term.specs.declared.tuple.Tuple.{Tuple}
use Rattle.apd_trace.specs.declared.item.Item.{Item}
use Rattle.apd_trace.specs.declared.item.Item.TheVariants.{Passed, Answer, Made, Error}
use Rattle.apd_trace.specs.Run.{ports_of, query_run}
use Rattle.apd_trace.specs.Trace.{trace}
use Rattle.apd_again.proofs.Counted.{ports-within}

port-boxes : (R : Recorded) (e : Event) (port : Port) → length (told_port R e port).boxes ≤ length R.boxes + 1
port-boxes R e Call = let l = length-append R.boxes (called_row e.atom (length R.points - 1) ∷ []) in omega (arith, l)
port-boxes R e Exit = let l = noted_boxes R e.box_no Exit (length R.boxes) refl in omega (arith, l)
port-boxes R e Redo = let l = noted_boxes R e.box_no Redo (length R.boxes) refl in omega (arith, l)
port-boxes R e Fail = let l = noted_boxes R e.box_no Fail (length R.boxes) refl in omega (arith, l)

told-boxes : (R : Recorded) (xs : List Item) → length (record_from R xs).boxes ≤ length R.boxes + ports_of xs
told-boxes R [] = omega arith
told-boxes R (Passed e ∷ xs) = let l = told-boxes (told_port R e e.port) xs in let m = port-boxes R e e.port in omega (arith, l, m)
told-boxes R (Answer a ∷ xs) = told-boxes R xs
told-boxes R (Made p ∷ xs) = told-boxes (record { boxes = R.boxes; points = R.points ++ p ∷ [] }) xs
told-boxes R (Error e b ∷ xs) = told-boxes R xs

pub run-boxes : (P : List Tuple) (query : Tuple) (budget answers : ℕ) → length (record_of (query_run P query budget answers).passed).boxes ≤ budget
run-boxes P query budget answers =
    let l = told-boxes empty (query_run P query budget answers).passed in
    let m = ports-within (trace P query (budget + 1)) budget answers in
    omega (arith, l, m)

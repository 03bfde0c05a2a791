-- Runs and their records by another numbering of names.
use Rattle.std.specs.Prelude.{ℕ, List, map}
use Rattle.apd_ports.specs.declared.event.Event.{Event}
use Rattle.apd_ports.specs.declared.point.Point.{Point}
use Rattle.apd_record.specs.Recorded.{Recorded}
use Rattle.apd_record.specs.declared.rows.BoxRow.{BoxRow}
use Rattle.apd_trace.specs.Run.{Run}
use Rattle.apd_trace.specs.declared.item.Item.{Item}
use Rattle.apd_trace.specs.declared.item.Item.TheVariants.{Passed, Answer, Made, Error}
use Rattle.apd_numbering.specs.Renumbering.{renumbered, renumbered_tuple}

abbrev pub renumbered_event : (ℕ → ℕ) → Event → Event
renumbered_event r e = record { port = e.port; box_no = e.box_no; caller = e.caller; depth = e.depth; atom = renumbered r e.atom }

abbrev pub renumbered_point : (ℕ → ℕ) → Point → Point
renumbered_point r p = record { owner = p.owner; clause = p.clause; done = p.done; tuple = renumbered_tuple r p.tuple; before = p.before }

abbrev pub renumbered_item : (ℕ → ℕ) → Item → Item
renumbered_item r (Passed e) = Passed (renumbered_event r e)
renumbered_item r (Answer a) = Answer (renumbered r a)
renumbered_item r (Made p) = Made (renumbered_point r p)
renumbered_item r (Error e b) = Error e b

abbrev pub renumbered_items : (ℕ → ℕ) → List Item → List Item
renumbered_items r xs = map (renumbered_item r) xs

abbrev pub renumbered_run : (ℕ → ℕ) → Run → Run
renumbered_run r run = record { passed = renumbered_items r run.passed; end = run.end }

abbrev pub renumbered_row : (ℕ → ℕ) → BoxRow → BoxRow
renumbered_row r b = record { atom = renumbered r b.atom; from = b.from; is_user = b.is_user; last = b.last; complete = b.complete }

abbrev pub renumbered_record : (ℕ → ℕ) → Recorded → Recorded
renumbered_record r R = record { boxes = map (renumbered_row r) R.boxes; points = map (renumbered_point r) R.points }

use Rattle.apd_cells.specs.Store.{term_at}
use Rattle.apd_frames.proofs.Writing.{canonical_alone}
use Rattle.apd_frames.proofs.reading.shown.Goals as goal

pub returns-in-Some : goal.returns-in-Some
returns-in-Some c =
    canonical_alone c.clear.new.self c.number_within.new.scratch (term_at c.args.store.now c.args.cell.0) c.in-Some.term 18446744073709551615 c.in_ok-term.field-0
    c.clear.ensures c.in_ok-term.ensures c.in-Some.is

use Rattle.apd_numbering.proofs.Searched.{run-renumbered, record-renumbered}
use Rattle.apd_numbering.proofs.laws.runs_are_renumbered.Goals as goal

pub returns : goal.returns
returns c = record { runs = run-renumbered; records = record-renumbered }

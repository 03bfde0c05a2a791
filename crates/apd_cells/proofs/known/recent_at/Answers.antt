use Rattle.std.proofs.Common.{subst, sym}
use Rattle.apd_cells.specs.declared.known.KnownExtent.{KnownExtent}
use Rattle.apd_cells.specs.Known.{HasExtent}
use Rattle.apd_cells.proofs.Recent.{recent_there}
use Rattle.apd_cells.proofs.known.recent_at.Goals as goal

pub returns : goal.returns
returns c = λ s n l h.
    subst (λ cell. HasExtent s cell c.read-found.result.extent) c.if-found-cell.false
    (subst (λ (k : KnownExtent). HasExtent s k.cell k.extent) (sym c.read-found.ensures)
    (recent_there s n c.args.recent.now c.args.place c.in_ok-kept.kept.now l h c.in_ok-kept.ensures))

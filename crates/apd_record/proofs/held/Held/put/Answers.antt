use Rattle.std.proofs.Common.{ap, ◌∙◌, Some}
use Rattle.std.proofs.lemmas.Bool.{OnTrue_at}
use Rattle.apd_points.specs.declared.kept.KeptPoint.{KeptPoint}
use Rattle.apd_record.specs.Open.{point_of_row}
use Rattle.apd_record.proofs.held.Held.put.Goals as goal

pub returns-then-put : goal.returns-then-put
returns-then-put c =
    ap (λ (x : KeptPoint). Some (point_of_row x)) (OnTrue_at c.if-put.true c.put.ensures ∙ c.row_of.ensures)

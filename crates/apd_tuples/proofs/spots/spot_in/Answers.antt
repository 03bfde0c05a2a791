use Rattle.std.proofs.Common.{◌∙◌, ap}
use Rattle.apd_tuples.specs.Cells.{head_at}
use Rattle.apd_tuples.proofs.Spanning.{place_with}
use Rattle.apd_tuples.proofs.spots.spot_in.Goals as goal

pub returns : goal.returns
returns c =
    ap (λ head. place_with c.args.row head c.goals_at.result.now) c.head_at.ensures
    ∙ ap (place_with c.args.row (head_at c.args.cells.now c.args.row.has_goals c.args.row.at)) c.goals_at.ensures

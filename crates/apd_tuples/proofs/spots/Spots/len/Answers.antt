use Rattle.std.proofs.Common.{◌∙◌, length, ap, sym}
use Rattle.std.proofs.lemmas.List.{length-map}
use Rattle.apd_tuples.specs.Spots.{spot_in}
use Rattle.apd_tuples.proofs.spots.Spots.len.Goals as goal

pub returns : goal.returns
returns c = c.len.ensures ∙ c.self.inside.rows.ok.0 ∙ sym (length-map c.self.inside.rows.items (spot_in c.self.inside.cells.items)) ∙ ap length c.self.view_is

use Rattle.std.proofs.Common.{length, ap, sym, ◌∙◌}
use Rattle.apd_points.specs.Packed.{Listed}
use Rattle.apd_points.proofs.Packing.{unpacked_length}
use Rattle.apd_points.proofs.points.Points.len.Goals as goal

pub returns : goal.returns
returns c = c.len.ensures ∙ c.self.inside.rows.ok.0 ∙ sym (unpacked_length c.self.inside.others.items 0 c.self.inside.rows.items) ∙ ap (λ (l : Listed). length l.rows) c.self.view_is

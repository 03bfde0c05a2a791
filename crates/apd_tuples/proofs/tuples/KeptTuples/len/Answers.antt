use Rattle.std.proofs.Common.{◌∙◌, length, ap, sym}
use Rattle.std.proofs.lemmas.List.{length-map}
use Rattle.apd_tuples.specs.Tuples.{kept_tuple}
use Rattle.apd_tuples.proofs.tuples.KeptTuples.len.Goals as goal

pub returns : goal.returns
returns c = c.len.ensures ∙ sym (length-map c.self.inside.spots (kept_tuple c.self.inside.past)) ∙ ap length c.self.view_is

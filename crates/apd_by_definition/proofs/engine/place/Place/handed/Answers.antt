use Rattle.std.proofs.Common.{◌∙◌, ap}
use Rattle.apd_trace.specs.Frames.{handed_all}
use Rattle.apd_by_definition.proofs.engine.place.Place.handed.Goals as goal

pub take_over-requires : goal.take_over-requires
take_over-requires c = rw c.in_ok-frames.ensures c.requires

pub returns-clause-frames : goal.returns-clause-frames
returns-clause-frames c = c.take_over.ensures ∙ ap (λ F. handed_all F c.args.point) c.in_ok-frames.ensures

-- What is known of the innermost frame's instance.
use Rattle.std.proofs.Common.{List, [], ◌∷◌}
use Rattle.apd_tuples.proofs.Grounds.{ground_canonical}
use Rattle.apd_tuples.specs.declared.spots.Fact.TheVariants.{Nothing, Ground as Known}
use Rattle.apd_trace.specs.declared.frame.Frame.{Frame}
use Rattle.apd_frames.specs.declared.measuring.Measure.TheVariants.{Ground}
use Rattle.apd_frames.specs.Measures.{MeasuresInnermost}
use Rattle.apd_following.specs.Followed.{HoldsInnermost}

pub holds_nothing : (F : List Frame) → HoldsInnermost Nothing F
holds_nothing [] = tt
holds_nothing (f ∷ F) = tt

pub holds_ground : (F : List Frame) → MeasuresInnermost Ground F → HoldsInnermost Known F
holds_ground [] h = tt
holds_ground (f ∷ F) h = ground_canonical f.tuple h.1

use Rattle.std.proofs.Common.{subst}
use Rattle.apd_frames.specs.Measures.{MeasuresInnermost}
use Rattle.apd_following.proofs.Known.{holds_nothing, holds_ground}
use Rattle.apd_following.proofs.facts.fact_of_measure.Goals as goal

pub returns-in-Ground : goal.returns-in-Ground
returns-in-Ground c = λ F h. holds_ground F (subst (λ m. MeasuresInnermost m F) c.in-Ground.is h)

pub returns-in-TooLarge : goal.returns-in-TooLarge
returns-in-TooLarge c = λ F h. holds_nothing F

pub returns-in-Fits : goal.returns-in-Fits
returns-in-Fits c = λ F h. holds_nothing F

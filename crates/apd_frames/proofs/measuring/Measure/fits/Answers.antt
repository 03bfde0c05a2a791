use Rattle.std.proofs.Common.{subst}
use Rattle.apd_frames.specs.Measures.{MeasuresInnermost}
use Rattle.apd_frames.proofs.Seeing.{fits_not, fits_so, fits_ground}
use Rattle.apd_frames.proofs.measuring.Measure.fits.Goals as goal

pub returns-in-TooLarge : goal.returns-in-TooLarge
returns-in-TooLarge c = λ F h. fits_not F (subst (λ m. MeasuresInnermost m F) c.in-TooLarge.is h)

pub returns-in-Fits : goal.returns-in-Fits
returns-in-Fits c = λ F h. fits_so F (subst (λ m. MeasuresInnermost m F) c.in-Fits.is h)

pub returns-in-Ground : goal.returns-in-Ground
returns-in-Ground c = λ F h. fits_ground F (subst (λ m. MeasuresInnermost m F) c.in-Ground.is h)

-- What is seen of the size and the variables of terms and of instances.
use Rattle.std.specs.Prelude.{◌≡◌, List, [], ◌∷◌, true, false}
use Rattle.apd_term.specs.Tuple.{variables_of_tuple}
use Rattle.apd_term.specs.declared.tuple.Tuple.{Tuple}
use Rattle.apd_trace.specs.Frames.{is_large}
use Rattle.apd_trace.specs.declared.frame.Frame.{Frame}
use Rattle.apd_frames.specs.declared.measuring.Measure.{Measure}
use Rattle.apd_frames.specs.declared.measuring.Measure.TheVariants.{TooLarge, Fits, Ground}

-- what is said of a tuple is so
abbrev pub IsMeasured : Measure → Tuple → Type 0
IsMeasured TooLarge t = is_large t ≡ true
IsMeasured Fits t = is_large t ≡ false
IsMeasured Ground t = (is_large t ≡ false) × (variables_of_tuple t ≡ [])

-- what is said of the innermost frame's instance is so
abbrev pub MeasuresInnermost : Measure → List Frame → Type 0
MeasuresInnermost m [] = m ≡ Fits
MeasuresInnermost m (f ∷ F) = IsMeasured m f.tuple

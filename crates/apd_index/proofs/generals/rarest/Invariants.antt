use Rattle.std.proofs.Common.{◌≡◌, ◌⊎◌}
use Rattle.apd_term.specs.Term.{IsAmong}
use Rattle.apd_marks.specs.Positions.{any_term}
use Rattle.apd_index.proofs.generals.rarest.Given as goal

abbrev pub invariant-marks : goal.invariant-marks
invariant-marks l = (l.rarest ≡ any_term) ⊎ IsAmong l.marks l.rarest

use Rattle.std.proofs.Common.{◌≡◌, ℕ, ◌<◌, Some, false}
use Rattle.std.specs.Prelude.{slice_get}
use Rattle.apd_points.specs.declared.kept.KeptPoint.{KeptPoint}
use Rattle.apd_record.specs.Recorded.{is_step}
use Rattle.apd_points.specs.Packed.{points_of}
use Rattle.apd_record.proofs.finding.follow_anywhere.Given as goal

-- none of those before followed
abbrev pub invariant-points : goal.invariant-points
invariant-points l = (i : ℕ) (x : KeptPoint) → slice_get (points_of l.points) i ≡ Some x → i < l.place → is_step x.before l.p.0 l.exit.0 ≡ false

use Rattle.std.proofs.Common.{◌≡◌, subst}
use Rattle.std.specs.Prelude.{IfOk}
use Rattle.apd_frames.specs.Kept.{Kept, fits}
use Rattle.apd_frames.proofs.frames.Frames.fits.Goals as goal

pub returns : goal.returns
returns c = subst (λ (k : Kept). IfOk c.fits.result (λ b. b ≡ fits k.current)) c.self.view_is c.fits.ensures

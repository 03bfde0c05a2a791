use Rattle.std.proofs.Common.{◌≡◌, ℕ, subst}
use Rattle.apd_trace.specs.Frames.{look_of}
use Rattle.apd_frames.specs.Kept.{Kept, ahead_of}
use Rattle.apd_frames.proofs.frames.Frames.ahead.Goals as goal

pub returns : goal.returns
returns c = subst (λ (k : Kept). (n : ℕ) → c.ahead.result ≡ ahead_of (look_of k.current n)) c.self.view_is c.ahead.ensures

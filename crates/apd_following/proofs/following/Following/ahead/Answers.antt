use Rattle.std.proofs.Common.{◌≡◌, ℕ, subst}
use Rattle.apd_trace.specs.Frames.{look_of}
use Rattle.apd_frames.specs.Kept.{ahead_of}
use Rattle.apd_following.specs.Followed.{Followed}
use Rattle.apd_following.proofs.following.Following.ahead.Goals as goal

pub ahead-requires : goal.ahead-requires
ahead-requires c = c.self.invariant.0

pub returns : goal.returns
returns c = subst (λ (f : Followed). (n : ℕ) → c.ahead.result ≡ ahead_of (look_of f.current n)) c.self.view_is c.ahead.ensures

use Rattle.std.proofs.Common.{◌∙◌, ap}
use Rattle.apd_frames.specs.Kept.{newest_of}
use Rattle.apd_following.specs.Followed.{Followed}
use Rattle.apd_following.proofs.following.Following.newest.Goals as goal

pub newest-requires : goal.newest-requires
newest-requires c = c.self.invariant.0

pub returns : goal.returns
returns c = c.newest.ensures ∙ ap (λ (f : Followed). newest_of f.current) c.self.view_is

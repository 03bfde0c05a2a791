use Rattle.std.proofs.Common.{subst}
use Rattle.apd_frames.specs.Kept.{IsKey}
use Rattle.apd_following.specs.Followed.{Followed}
use Rattle.apd_following.proofs.following.Following.key.Goals as goal

pub key-requires : goal.key-requires
key-requires c = c.self.invariant.0

pub returns : goal.returns
returns c = subst (λ (f : Followed). IsKey c.key.result f.current) c.self.view_is c.key.ensures

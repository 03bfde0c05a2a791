use Rattle.std.proofs.Common.{subst}
use Rattle.apd_frames.specs.Kept.{IsKey, Kept}
use Rattle.apd_frames.proofs.frames.Frames.key.Goals as goal

pub returns : goal.returns
returns c = subst (λ (k : Kept). IsKey c.key.result k.current) c.self.view_is c.key.ensures

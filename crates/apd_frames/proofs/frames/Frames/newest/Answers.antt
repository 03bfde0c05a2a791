use Rattle.std.proofs.Common.{◌∙◌, ap}
use Rattle.apd_frames.specs.Kept.{Kept, newest_of}
use Rattle.apd_frames.proofs.frames.Frames.newest.Goals as goal

pub returns : goal.returns
returns c = c.newest.ensures ∙ ap (λ (k : Kept). newest_of k.current) c.self.view_is

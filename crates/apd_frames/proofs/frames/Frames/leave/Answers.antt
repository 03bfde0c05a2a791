use Rattle.std.proofs.Common.{◌∙◌, ap}
use Rattle.apd_trace.specs.Frames.{outer}
use Rattle.apd_frames.specs.Kept.{Kept}
use Rattle.apd_frames.proofs.frames.Frames.leave.Goals as goal

pub returns : goal.returns
returns c = c.leave.ensures.left ∙ ap (λ (k : Kept). record { current = outer k.current; saved = k.saved }) c.self.view_is

pub invariant_of-self : goal.invariant_of-self
invariant_of-self c = c.leave.ensures.framed

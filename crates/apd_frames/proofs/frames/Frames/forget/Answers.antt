use Rattle.std.proofs.Common.{◌<◌, ◌∙◌, ap, drop, length, subst, sym}
use Rattle.apd_frames.specs.Kept.{Kept}
use Rattle.apd_frames.proofs.frames.Frames.forget.Goals as goal

pub forget-requires-clause-some : goal.forget-requires-clause-some
forget-requires-clause-some c = subst (λ (k : Kept). 0 < length k.saved) (sym c.self.view_is) c.requires

pub returns : goal.returns
returns c = c.forget.ensures.forgotten ∙ ap (λ (k : Kept). record { current = k.current; saved = drop 1 k.saved }) c.self.view_is

pub invariant_of-self : goal.invariant_of-self
invariant_of-self c = c.forget.ensures.framed

use Rattle.std.proofs.Common.{◌≡◌, ◌∷◌, subst}
use Rattle.std.specs.Prelude.{OnOk}
use Rattle.apd_frames.specs.Framed.{frames_of}
use Rattle.apd_frames.specs.Kept.{Kept}
use Rattle.apd_frames.proofs.frames.Frames.save.Goals as goal

pub returns : goal.returns
returns c =
    subst (λ (k : Kept). OnOk c.save.result (frames_of c.save.new.self ≡ record { current = k.current; saved = k.current ∷ k.saved })) c.self.view_is c.save.ensures.saved

pub invariant_of-self : goal.invariant_of-self
invariant_of-self c = c.save.ensures.framed

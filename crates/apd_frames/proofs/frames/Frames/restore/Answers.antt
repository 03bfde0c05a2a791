use Rattle.std.proofs.Common.{◌≡◌, ◌<◌, ◌∷◌, ◌∙◌, ap, drop, length, refl, subst, sym}
use Rattle.apd_frames.specs.Framed.{frames_of}
use Rattle.apd_frames.specs.Kept.{Kept}
use Rattle.apd_frames.proofs.frames.Frames.restore.Goals as goal

pub restore-requires-clause-some : goal.restore-requires-clause-some
restore-requires-clause-some c = subst (λ (k : Kept). 0 < length k.saved) (sym c.self.view_is) c.requires

pub restore-requires-clause-front : goal.restore-requires-clause-front
restore-requires-clause-front c = record { whole = refl; below = λ v o. absurd o }

pub returns-clause-current : goal.returns-clause-current
returns-clause-current c =
    subst (λ (k : Kept). k.saved ≡ (frames_of c.restore.new.self).current ∷ drop 1 k.saved) c.self.view_is c.restore.ensures.current

pub returns-clause-saved : goal.returns-clause-saved
returns-clause-saved c = c.restore.ensures.saved ∙ ap (λ (k : Kept). k.saved) c.self.view_is

pub invariant_of-self : goal.invariant_of-self
invariant_of-self c = c.restore.ensures.framed

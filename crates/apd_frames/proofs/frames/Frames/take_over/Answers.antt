use Rattle.std.proofs.Common.{◌≡◌, subst, sym}
use Rattle.std.specs.Prelude.{OnOk}
use Rattle.apd_trace.specs.Frames.{handed_all}
use Rattle.apd_frames.specs.Framed.{frames_of}
use Rattle.apd_frames.specs.Kept.{Kept, Takes}
use Rattle.apd_frames.proofs.frames.Frames.take_over.Goals as goal

pub take_over-requires-clause-takes : goal.take_over-requires-clause-takes
take_over-requires-clause-takes c = subst (λ (k : Kept). Takes k.current) (sym c.self.view_is) c.requires

pub returns : goal.returns
returns c =
    subst
    (λ (k : Kept). OnOk c.take_over.result (frames_of c.take_over.new.self ≡ record { current = handed_all k.current c.args.point; saved = k.saved }))
    c.self.view_is c.take_over.ensures.taken

pub invariant_of-self : goal.invariant_of-self
invariant_of-self c = c.take_over.ensures.framed

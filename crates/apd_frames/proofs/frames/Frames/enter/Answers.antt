use Rattle.std.proofs.Common.{subst, sym}
use Rattle.std.specs.Prelude.{IfOk}
use Rattle.apd_trace.specs.Frames.{entering}
use Rattle.apd_trace.specs.declared.frame.Called.{Called}
use Rattle.apd_frames.specs.Framed.{frames_of}
use Rattle.apd_frames.specs.Kept.{Calls, Enters, Kept, MayCall}
use Rattle.apd_frames.proofs.frames.Frames.enter.Goals as goal

pub enter-requires-clause-deep : goal.enter-requires-clause-deep
enter-requires-clause-deep c = subst (λ (k : Kept). MayCall k.current) (sym c.self.view_is) c.requires.deep

pub returns : goal.returns
returns c =
    subst
    (λ (k : Kept). IfOk c.enter.result (λ b. (g : Called) → Calls k.current c.args.box_no g →
    Enters (entering k.current g c.args.rule.now c.args.clause c.args.point) b k (frames_of c.enter.new.self)))
    c.self.view_is c.enter.ensures.enters

pub invariant_of-self : goal.invariant_of-self
invariant_of-self c = c.enter.ensures.framed

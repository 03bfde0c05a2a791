use Rattle.std.proofs.Common.{◌≡◌, ◌∙◌, subst, sym}
use Rattle.std.specs.Prelude.{IfOk}
use Rattle.apd_trace.specs.Frames.{look_of}
use Rattle.apd_frames.specs.Kept.{Kept, MayCall}
use Rattle.apd_frames.proofs.Framed.{same_framed, same_frames}
use Rattle.apd_frames.proofs.frames.Frames.look.Goals as goal

pub look-requires-clause-deep : goal.look-requires-clause-deep
look-requires-clause-deep c = subst (λ (k : Kept). MayCall k.current) (sym c.self.view_is) c.requires

pub returns-clause-look : goal.returns-clause-look
returns-clause-look c = subst (λ (k : Kept). IfOk c.look.result (λ l. l ≡ look_of k.current c.args.box_no)) c.self.view_is c.look.ensures.look

pub returns-clause-kept : goal.returns-clause-kept
returns-clause-kept c = same_frames c.self.inside.linked c.look.new.self c.look.ensures.same ∙ c.self.view_is

pub invariant_of-self : goal.invariant_of-self
invariant_of-self c = same_framed c.self.inside.linked c.look.new.self c.look.ensures.same c.self.invariant

use Rattle.std.proofs.Common.{◌∙◌, ◌<◌, length, subst, sym}
use Rattle.std.specs.Prelude.{IfOk}
use Rattle.apd_frames.specs.Kept.{Kept, Points}
use Rattle.apd_frames.proofs.Framed.{same_framed, same_frames}
use Rattle.apd_frames.proofs.frames.Frames.point.Goals as goal

pub point-requires-clause-some : goal.point-requires-clause-some
point-requires-clause-some c = subst (λ (k : Kept). 0 < length k.current) (sym c.self.view_is) c.requires

pub returns-clause-point : goal.returns-clause-point
returns-clause-point c = subst (λ (k : Kept). IfOk c.point.result (λ p. Points p k.current c.args.before)) c.self.view_is c.point.ensures.point

pub returns-clause-kept : goal.returns-clause-kept
returns-clause-kept c = same_frames c.self.inside.linked c.point.new.self c.point.ensures.same ∙ c.self.view_is

pub invariant_of-self : goal.invariant_of-self
invariant_of-self c = same_framed c.self.inside.linked c.point.new.self c.point.ensures.same c.self.invariant

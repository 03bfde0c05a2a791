use Rattle.std.proofs.Common.{◌≡◌, ◌∙◌, ◌<◌, Some, length, subst, sym}
use Rattle.std.specs.Prelude.{IfOk}
use Rattle.apd_frames.specs.Kept.{Kept, exit_in}
use Rattle.apd_frames.proofs.Framed.{same_framed, same_frames}
use Rattle.apd_frames.proofs.frames.Frames.exited.Goals as goal

pub exited-requires-clause-some : goal.exited-requires-clause-some
exited-requires-clause-some c = subst (λ (k : Kept). 0 < length k.current) (sym c.self.view_is) c.requires

pub returns-clause-exit : goal.returns-clause-exit
returns-clause-exit c = subst (λ (k : Kept). IfOk c.exited.result (λ e. Some e ≡ exit_in k.current)) c.self.view_is c.exited.ensures.exit

pub returns-clause-kept : goal.returns-clause-kept
returns-clause-kept c = same_frames c.self.inside.linked c.exited.new.self c.exited.ensures.same ∙ c.self.view_is

pub invariant_of-self : goal.invariant_of-self
invariant_of-self c = same_framed c.self.inside.linked c.exited.new.self c.exited.ensures.same c.self.invariant

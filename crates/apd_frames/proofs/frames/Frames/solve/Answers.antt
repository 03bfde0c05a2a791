use Rattle.std.proofs.Common.{subst, sym}
use Rattle.std.specs.Prelude.{IfOk}
use Rattle.apd_trace.specs.BuiltIn.{solution}
use Rattle.apd_trace.specs.Renaming.{AreAlike}
use Rattle.apd_trace.specs.declared.frame.Called.{Called}
use Rattle.apd_frames.specs.Framed.{frames_of}
use Rattle.apd_frames.specs.Kept.{Calls, Kept, MayCall}
use Rattle.apd_frames.specs.Solves.{Keeps, solution_as}
use Rattle.apd_frames.proofs.frames.Frames.solve.Goals as goal

pub solve-requires-clause-deep : goal.solve-requires-clause-deep
solve-requires-clause-deep c = subst (λ (k : Kept). MayCall k.current) (sym c.self.view_is) c.requires

pub returns-clause-alike : goal.returns-clause-alike
returns-clause-alike c =
    subst
    (λ (k : Kept). IfOk c.solve.result (λ r. (g : Called) → Calls k.current c.args.box_no g →
    AreAlike (solution k.current g c.args.point) (solution_as r (frames_of c.solve.new.self).current)))
    c.self.view_is c.solve.ensures.alike

pub returns-clause-kept : goal.returns-clause-kept
returns-clause-kept c = subst (λ (k : Kept). IfOk c.solve.result (λ r. Keeps r k (frames_of c.solve.new.self))) c.self.view_is c.solve.ensures.kept

pub invariant_of-self : goal.invariant_of-self
invariant_of-self c = c.solve.ensures.framed

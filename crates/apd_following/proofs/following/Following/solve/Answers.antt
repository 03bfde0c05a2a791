use Rattle.std.proofs.Common.{◌∙◌, ap, subst, sym}
use Rattle.std.specs.Prelude.{IfOk}
use Rattle.apd_trace.specs.BuiltIn.{solution}
use Rattle.apd_trace.specs.Renaming.{AreAlike}
use Rattle.apd_trace.specs.declared.frame.Called.{Called}
use Rattle.apd_frames.specs.Framed.{frames_of}
use Rattle.apd_frames.specs.Kept.{Calls, MayCall}
use Rattle.apd_frames.specs.Solves.{Keeps, solution_as}
use Rattle.apd_following.specs.Followed.{Followed, kept_of}
use Rattle.apd_following.proofs.Tying.{kept_more, there_more, tied_more}
use Rattle.apd_following.proofs.following.Following.solve.Goals as goal

pub solve-requires-clause-framed : goal.solve-requires-clause-framed
solve-requires-clause-framed c = c.self.invariant.0

pub solve-requires-clause-deep : goal.solve-requires-clause-deep
solve-requires-clause-deep c = subst (λ (f : Followed). MayCall f.current) (sym c.self.view_is) c.requires

pub returns-clause-alike : goal.returns-clause-alike
returns-clause-alike c =
    subst
    (λ (f : Followed). IfOk c.solve.result (λ r. (g : Called) → Calls f.current c.args.box_no g →
    AreAlike (solution f.current g c.args.point) (solution_as r (frames_of c.solve.new.self).current)))
    c.self.view_is c.solve.ensures.alike

pub returns-clause-kept : goal.returns-clause-kept
returns-clause-kept c = subst (λ (f : Followed). IfOk c.solve.result (λ r. Keeps r (kept_of f) (frames_of c.solve.new.self))) c.self.view_is c.solve.ensures.kept

pub returns-clause-tuples : goal.returns-clause-tuples
returns-clause-tuples c = kept_more c.self.inside.linked.store c.solve.new.self.store c.solve.ensures.store c.self.inside.tie c.self.inside.spots c.self.invariant.1 ∙ ap (λ (f : Followed). f.tuples) c.self.view_is

pub invariant_of-self : goal.invariant_of-self
invariant_of-self c = (
  c.solve.ensures.framed,
  tied_more c.self.inside.linked.store c.solve.new.self.store c.solve.ensures.store c.self.inside.tie c.self.invariant.1,
  there_more c.self.inside.linked.store c.solve.new.self.store c.solve.ensures.store c.self.inside.tie c.self.inside.spots c.self.invariant.1 c.self.invariant.2,
)

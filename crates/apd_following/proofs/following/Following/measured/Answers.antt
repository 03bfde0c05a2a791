use Rattle.std.proofs.Common.{◌∙◌, ap, subst}
use Rattle.std.specs.Prelude.{IfOk}
use Rattle.apd_frames.specs.Framed.{frames_of}
use Rattle.apd_frames.specs.Measures.{MeasuresInnermost}
use Rattle.apd_frames.proofs.Framed.{same_framed, same_frames}
use Rattle.apd_following.specs.Followed.{Followed}
use Rattle.apd_following.proofs.Keeping.{followed, other_frames}
use Rattle.apd_following.proofs.Tying.{kept_same, tied_same, there_same}
use Rattle.apd_following.proofs.following.Following.measured.Goals as goal

pub measure-requires : goal.measure-requires
measure-requires c = c.self.invariant.0

pub returns-clause-measured : goal.returns-clause-measured
returns-clause-measured c = subst (λ (f : Followed). IfOk c.measure.result (λ m. MeasuresInnermost m f.current)) c.self.view_is c.measure.ensures.measured

pub invariant_of-self : goal.invariant_of-self
invariant_of-self c = (
  same_framed c.self.inside.linked c.measure.new.self c.measure.ensures.same c.self.invariant.0,
  tied_same c.self.inside.tie c.self.inside.linked.store c.measure.new.self.store c.self.invariant.1 c.measure.ensures.same.store,
  there_same c.self.inside.tie c.self.inside.linked.store c.measure.new.self.store c.self.inside.spots c.self.invariant.2 c.measure.ensures.same.store,
)

pub returns-clause-kept : goal.returns-clause-kept
returns-clause-kept c =
    ap (followed (frames_of c.measure.new.self)) (kept_same c.self.inside.tie c.self.inside.linked.store c.measure.new.self.store c.self.inside.spots c.measure.ensures.same.store)
    ∙ other_frames (frames_of c.self.inside.linked) (frames_of c.measure.new.self) _ c.args.self.now (same_frames c.self.inside.linked c.measure.new.self c.measure.ensures.same) c.self.view_is

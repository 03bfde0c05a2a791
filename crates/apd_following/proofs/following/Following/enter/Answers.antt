use Rattle.std.proofs.Common.{◌∙◌, ap, subst, sym}
use Rattle.std.specs.Prelude.{IfOk}
use Rattle.apd_trace.specs.Frames.{entering}
use Rattle.apd_trace.specs.declared.frame.Called.{Called}
use Rattle.apd_frames.specs.Framed.{frames_of}
use Rattle.apd_frames.specs.Kept.{Calls, Enters, MayCall}
use Rattle.apd_following.specs.Followed.{Followed, kept_of}
use Rattle.apd_following.proofs.Tying.{kept_more, there_more, tied_more}
use Rattle.apd_following.proofs.following.Following.enter.Goals as goal

pub enter-requires-clause-framed : goal.enter-requires-clause-framed
enter-requires-clause-framed c = c.self.invariant.0

pub enter-requires-clause-deep : goal.enter-requires-clause-deep
enter-requires-clause-deep c = subst (λ (f : Followed). MayCall f.current) (sym c.self.view_is) c.requires.deep

pub returns-clause-enters : goal.returns-clause-enters
returns-clause-enters c =
    subst
    (λ (f : Followed). IfOk c.enter.result (λ b. (g : Called) → Calls f.current c.args.box_no g →
    Enters (entering f.current g c.args.rule.now c.args.clause c.args.point) b (kept_of f) (frames_of c.enter.new.self)))
    c.self.view_is c.enter.ensures.enters

pub returns-clause-tuples : goal.returns-clause-tuples
returns-clause-tuples c = kept_more c.self.inside.linked.store c.enter.new.self.store c.enter.ensures.store c.self.inside.tie c.self.inside.spots c.self.invariant.1 ∙ ap (λ (f : Followed). f.tuples) c.self.view_is

pub invariant_of-self : goal.invariant_of-self
invariant_of-self c = (
  c.enter.ensures.framed,
  tied_more c.self.inside.linked.store c.enter.new.self.store c.enter.ensures.store c.self.inside.tie c.self.invariant.1,
  there_more c.self.inside.linked.store c.enter.new.self.store c.enter.ensures.store c.self.inside.tie c.self.inside.spots c.self.invariant.1 c.self.invariant.2,
)

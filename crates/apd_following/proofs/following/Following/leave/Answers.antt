use Rattle.std.proofs.Common.{◌∙◌, ap}
use Rattle.apd_trace.specs.Frames.{outer}
use Rattle.apd_frames.specs.Kept.{Kept}
use Rattle.apd_tuples.specs.Tuples.{kept_tuples}
use Rattle.apd_following.specs.Followed.{Followed}
use Rattle.apd_frames.specs.Framed.{frames_of}
use Rattle.apd_following.specs.Tied.{past_of}
use Rattle.apd_following.proofs.Keeping.{followed}
use Rattle.apd_following.proofs.Tying.{kept_same, tied_same, there_same}
use Rattle.apd_following.proofs.following.Following.leave.Goals as goal

pub leave-requires : goal.leave-requires
leave-requires c = c.self.invariant.0

pub returns : goal.returns
returns c =
    ap (followed (frames_of c.leave.new.self)) (kept_same c.self.inside.tie c.self.inside.linked.store c.leave.new.self.store c.self.inside.spots c.leave.ensures.store)
    ∙ ap (λ (k : Kept). followed k (kept_tuples (past_of c.self.inside.tie c.self.inside.linked.store) c.self.inside.spots)) c.leave.ensures.left
    ∙ ap (λ (f : Followed). record { current = outer f.current; saved = f.saved; tuples = f.tuples }) c.self.view_is

pub invariant_of-self : goal.invariant_of-self
invariant_of-self c = (
  c.leave.ensures.framed,
  tied_same c.self.inside.tie c.self.inside.linked.store c.leave.new.self.store c.self.invariant.1 c.leave.ensures.store,
  there_same c.self.inside.tie c.self.inside.linked.store c.leave.new.self.store c.self.inside.spots c.self.invariant.2 c.leave.ensures.store,
)

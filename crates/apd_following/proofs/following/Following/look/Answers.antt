use Rattle.std.proofs.Common.{◌≡◌, ◌∙◌, ap, subst, sym}
use Rattle.std.specs.Prelude.{IfOk}
use Rattle.apd_trace.specs.Frames.{look_of}
use Rattle.apd_frames.specs.Kept.{MayCall}
use Rattle.apd_frames.proofs.Framed.{same_framed, same_frames}
use Rattle.apd_following.specs.Followed.{Followed}
use Rattle.apd_frames.specs.Framed.{frames_of}
use Rattle.apd_following.proofs.Keeping.{followed, other_frames}
use Rattle.apd_following.proofs.Tying.{kept_same, tied_same, there_same}
use Rattle.apd_following.proofs.following.Following.look.Goals as goal

pub look-requires-clause-framed : goal.look-requires-clause-framed
look-requires-clause-framed c = c.self.invariant.0

pub look-requires-clause-deep : goal.look-requires-clause-deep
look-requires-clause-deep c = subst (λ (f : Followed). MayCall f.current) (sym c.self.view_is) c.requires

pub returns-clause-look : goal.returns-clause-look
returns-clause-look c = subst (λ (f : Followed). IfOk c.look.result (λ l. l ≡ look_of f.current c.args.box_no)) c.self.view_is c.look.ensures.look

pub invariant_of-self : goal.invariant_of-self
invariant_of-self c = (
  same_framed c.self.inside.linked c.look.new.self c.look.ensures.same c.self.invariant.0,
  tied_same c.self.inside.tie c.self.inside.linked.store c.look.new.self.store c.self.invariant.1 c.look.ensures.same.store,
  there_same c.self.inside.tie c.self.inside.linked.store c.look.new.self.store c.self.inside.spots c.self.invariant.2 c.look.ensures.same.store,
)

pub returns-clause-kept : goal.returns-clause-kept
returns-clause-kept c =
    ap (followed (frames_of c.look.new.self)) (kept_same c.self.inside.tie c.self.inside.linked.store c.look.new.self.store c.self.inside.spots c.look.ensures.same.store)
    ∙ other_frames (frames_of c.self.inside.linked) (frames_of c.look.new.self) _ c.args.self.now (same_frames c.self.inside.linked c.look.new.self c.look.ensures.same) c.self.view_is

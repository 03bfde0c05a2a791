use Rattle.std.proofs.Common.{◌≡◌, ◌∙◌, ap, ◌<◌, Some, length, subst, sym}
use Rattle.std.specs.Prelude.{IfOk}
use Rattle.apd_frames.specs.Kept.{exit_in}
use Rattle.apd_frames.proofs.Framed.{same_framed, same_frames}
use Rattle.apd_following.specs.Followed.{Followed}
use Rattle.apd_frames.specs.Framed.{frames_of}
use Rattle.apd_following.proofs.Keeping.{followed, other_frames}
use Rattle.apd_following.proofs.Tying.{kept_same, tied_same, there_same}
use Rattle.apd_following.proofs.following.Following.exited.Goals as goal

pub exited-requires-clause-framed : goal.exited-requires-clause-framed
exited-requires-clause-framed c = c.self.invariant.0

pub exited-requires-clause-some : goal.exited-requires-clause-some
exited-requires-clause-some c = subst (λ (f : Followed). 0 < length f.current) (sym c.self.view_is) c.requires

pub returns-clause-exit : goal.returns-clause-exit
returns-clause-exit c = subst (λ (f : Followed). IfOk c.exited.result (λ e. Some e ≡ exit_in f.current)) c.self.view_is c.exited.ensures.exit

pub invariant_of-self : goal.invariant_of-self
invariant_of-self c = (
  same_framed c.self.inside.linked c.exited.new.self c.exited.ensures.same c.self.invariant.0,
  tied_same c.self.inside.tie c.self.inside.linked.store c.exited.new.self.store c.self.invariant.1 c.exited.ensures.same.store,
  there_same c.self.inside.tie c.self.inside.linked.store c.exited.new.self.store c.self.inside.spots c.self.invariant.2 c.exited.ensures.same.store,
)

pub returns-clause-kept : goal.returns-clause-kept
returns-clause-kept c =
    ap (followed (frames_of c.exited.new.self)) (kept_same c.self.inside.tie c.self.inside.linked.store c.exited.new.self.store c.self.inside.spots c.exited.ensures.same.store)
    ∙ other_frames (frames_of c.self.inside.linked) (frames_of c.exited.new.self) _ c.args.self.now (same_frames c.self.inside.linked c.exited.new.self c.exited.ensures.same) c.self.view_is

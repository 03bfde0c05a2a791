use Rattle.std.proofs.Common.{◌<◌, ◌∙◌, ap, drop, length, subst, sym}
use Rattle.apd_frames.specs.Kept.{Kept}
use Rattle.apd_tuples.specs.Tuples.{kept_tuples}
use Rattle.apd_following.specs.Followed.{Followed}
use Rattle.apd_frames.specs.Framed.{frames_of}
use Rattle.apd_following.specs.Tied.{past_of}
use Rattle.apd_following.proofs.Keeping.{followed}
use Rattle.apd_following.proofs.Tying.{kept_same, tied_same, there_same}
use Rattle.apd_following.proofs.following.Following.forget.Goals as goal

pub forget-requires-clause-framed : goal.forget-requires-clause-framed
forget-requires-clause-framed c = c.self.invariant.0

pub forget-requires-clause-some : goal.forget-requires-clause-some
forget-requires-clause-some c = subst (λ (f : Followed). 0 < length f.saved) (sym c.self.view_is) c.requires

pub returns : goal.returns
returns c =
    ap (followed (frames_of c.forget.new.self)) (kept_same c.self.inside.tie c.self.inside.linked.store c.forget.new.self.store c.self.inside.spots c.forget.ensures.store)
    ∙ ap (λ (k : Kept). followed k (kept_tuples (past_of c.self.inside.tie c.self.inside.linked.store) c.self.inside.spots)) c.forget.ensures.forgotten
    ∙ ap (λ (f : Followed). record { current = f.current; saved = drop 1 f.saved; tuples = f.tuples }) c.self.view_is

pub invariant_of-self : goal.invariant_of-self
invariant_of-self c = (
  c.forget.ensures.framed,
  tied_same c.self.inside.tie c.self.inside.linked.store c.forget.new.self.store c.self.invariant.1 c.forget.ensures.store,
  there_same c.self.inside.tie c.self.inside.linked.store c.forget.new.self.store c.self.inside.spots c.self.invariant.2 c.forget.ensures.store,
)

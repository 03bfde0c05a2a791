use Rattle.std.proofs.Common.{◌∙◌, ap, subst, sym}
use Rattle.std.proofs.lemmas.Result.{on_ok_weaker}
use Rattle.apd_trace.specs.Frames.{handed_all}
use Rattle.apd_frames.specs.Kept.{Kept, Takes}
use Rattle.apd_tuples.specs.Tuples.{kept_tuples}
use Rattle.apd_following.specs.Followed.{Followed}
use Rattle.apd_frames.specs.Framed.{frames_of}
use Rattle.apd_following.specs.Tied.{past_of}
use Rattle.apd_following.proofs.Keeping.{followed}
use Rattle.apd_following.proofs.Tying.{kept_same, tied_same, there_same}
use Rattle.apd_following.proofs.following.Following.take_over.Goals as goal

pub take_over-requires-clause-framed : goal.take_over-requires-clause-framed
take_over-requires-clause-framed c = c.self.invariant.0

pub take_over-requires-clause-takes : goal.take_over-requires-clause-takes
take_over-requires-clause-takes c = subst (λ (f : Followed). Takes f.current) (sym c.self.view_is) c.requires

pub returns-clause-taken : goal.returns-clause-taken
returns-clause-taken c =
    on_ok_weaker c.take_over.result
    (λ e. ap (followed (frames_of c.take_over.new.self)) (kept_same c.self.inside.tie c.self.inside.linked.store c.take_over.new.self.store c.self.inside.spots c.take_over.ensures.store)
    ∙ ap (λ (k : Kept). followed k (kept_tuples (past_of c.self.inside.tie c.self.inside.linked.store) c.self.inside.spots)) e
    ∙ ap (λ (f : Followed). record { current = handed_all f.current c.args.point; saved = f.saved; tuples = f.tuples }) c.self.view_is)
    c.take_over.ensures.taken

pub returns-clause-tuples : goal.returns-clause-tuples
returns-clause-tuples c = kept_same c.self.inside.tie c.self.inside.linked.store c.take_over.new.self.store c.self.inside.spots c.take_over.ensures.store ∙ ap (λ (f : Followed). f.tuples) c.self.view_is

pub invariant_of-self : goal.invariant_of-self
invariant_of-self c = (
  c.take_over.ensures.framed,
  tied_same c.self.inside.tie c.self.inside.linked.store c.take_over.new.self.store c.self.invariant.1 c.take_over.ensures.store,
  there_same c.self.inside.tie c.self.inside.linked.store c.take_over.new.self.store c.self.inside.spots c.self.invariant.2 c.take_over.ensures.store,
)

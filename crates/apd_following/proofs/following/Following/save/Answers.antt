use Rattle.std.proofs.Common.{◌∙◌, ◌∷◌, ap}
use Rattle.std.proofs.lemmas.Result.{on_ok_weaker}
use Rattle.apd_frames.specs.Kept.{Kept}
use Rattle.apd_tuples.specs.Tuples.{kept_tuples}
use Rattle.apd_following.specs.Followed.{Followed}
use Rattle.apd_frames.specs.Framed.{frames_of}
use Rattle.apd_following.specs.Tied.{past_of}
use Rattle.apd_following.proofs.Keeping.{followed}
use Rattle.apd_following.proofs.Tying.{kept_same, tied_same, there_same}
use Rattle.apd_following.proofs.following.Following.save.Goals as goal

pub save-requires : goal.save-requires
save-requires c = c.self.invariant.0

pub returns-clause-saved : goal.returns-clause-saved
returns-clause-saved c =
    on_ok_weaker c.save.result
    (λ e. ap (followed (frames_of c.save.new.self)) (kept_same c.self.inside.tie c.self.inside.linked.store c.save.new.self.store c.self.inside.spots c.save.ensures.store)
    ∙ ap (λ (k : Kept). followed k (kept_tuples (past_of c.self.inside.tie c.self.inside.linked.store) c.self.inside.spots)) e
    ∙ ap (λ (f : Followed). record { current = f.current; saved = f.current ∷ f.saved; tuples = f.tuples }) c.self.view_is)
    c.save.ensures.saved

pub returns-clause-tuples : goal.returns-clause-tuples
returns-clause-tuples c = kept_same c.self.inside.tie c.self.inside.linked.store c.save.new.self.store c.self.inside.spots c.save.ensures.store ∙ ap (λ (f : Followed). f.tuples) c.self.view_is

pub invariant_of-self : goal.invariant_of-self
invariant_of-self c = (
  c.save.ensures.framed,
  tied_same c.self.inside.tie c.self.inside.linked.store c.save.new.self.store c.self.invariant.1 c.save.ensures.store,
  there_same c.self.inside.tie c.self.inside.linked.store c.save.new.self.store c.self.inside.spots c.self.invariant.2 c.save.ensures.store,
)

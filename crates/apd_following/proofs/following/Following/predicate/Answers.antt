use Rattle.std.proofs.Common.{◌≡◌, ℕ, subst}
use Rattle.apd_term.specs.Term.{predicate_of}
use Rattle.apd_trace.specs.declared.frame.Called.{Called}
use Rattle.apd_frames.specs.Kept.{Calls}
use Rattle.apd_following.specs.Followed.{Followed}
use Rattle.apd_following.proofs.following.Following.predicate.Goals as goal

pub predicate-requires : goal.predicate-requires
predicate-requires c = c.self.invariant.0

pub returns : goal.returns
returns c =
    subst (λ (f : Followed). (n : ℕ) (g : Called) → Calls f.current n g → c.predicate.result ≡ predicate_of g.atom) c.self.view_is c.predicate.ensures

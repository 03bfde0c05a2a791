use Rattle.std.proofs.Common.{◌≡◌, ℕ, subst}
use Rattle.apd_term.specs.Term.{predicate_of}
use Rattle.apd_trace.specs.declared.frame.Called.{Called}
use Rattle.apd_frames.specs.Kept.{Calls, Kept}
use Rattle.apd_frames.proofs.frames.Frames.predicate.Goals as goal

pub returns : goal.returns
returns c =
    subst (λ (k : Kept). (n : ℕ) (g : Called) → Calls k.current n g → c.predicate.result ≡ predicate_of g.atom) c.self.view_is c.predicate.ensures

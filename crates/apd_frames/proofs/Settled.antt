-- Terms at cells that have no unifier, and what that says of the outcome of a goal.
use Rattle.std.proofs.Common.{◌≡◌, ℕ, inr, refl, subst}
use Rattle.apd_term.specs.Term.{Term}
use Rattle.apd_unify.specs.Unifier.{HasNoUnifier}
use Rattle.apd_cells.specs.Stored.{Stored}
use Rattle.apd_cells.specs.Store.{term_at}
use Rattle.apd_trace.specs.declared.frame.Outcome.TheVariants.{Equates}
use Rattle.apd_frames.specs.Solves.{SettlesBy}
use Rattle.apd_frames.specs.declared.builtin.Solved.TheVariants.{Failed}

-- the two terms stand in a later store, where they have no unifier
pub clashed : (old later new : Stored) (a b : ℕ) (one other : Term) → term_at later a ≡ one → term_at later b ≡ other → HasNoUnifier (term_at later a) (term_at later b) → new ≡ old
    → SettlesBy (Equates one other) Failed old new
clashed old later new a b one other left right h same = (
  same,
  inr (record { one = one; other = other; is = refl; none = subst (λ t. HasNoUnifier t other) left (subst (HasNoUnifier (term_at later a)) right h) }),
)

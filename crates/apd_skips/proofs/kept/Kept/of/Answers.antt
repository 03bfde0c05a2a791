use Rattle.std.proofs.Common.{subst, sym}
use Rattle.apd_term.specs.Term.{Term, spell}
use Rattle.apd_skips.specs.Skips.{HasSkips}
use Rattle.apd_skips.proofs.kept.Kept.of.Goals as goal

pub invariant_of-result : goal.invariant_of-result
invariant_of-result c = subst (λ (t : Term). HasSkips (spell t) c.in_ok-skips.skips.items) (sym c.in_ok-copy.ensures) c.in_ok-skips.ensures

use Rattle.std.proofs.Common.{subst, sym}
use Rattle.apd_by_definition.proofs.Below.{IsSmall, IsSmall-canonical, small_fits}
use Rattle.apd_by_definition.proofs.engine.goals.renumbered.Goals as goal

pub shifted_tuple-renumbered-requires : goal.shifted_tuple-renumbered-requires
shifted_tuple-renumbered-requires c =
    λ v o. small_fits c.in_ok-canonical.canonical c.args.fresh 18446744073709551615 (subst IsSmall (sym c.in_ok-canonical.ensures) (IsSmall-canonical c.args.rule.now c.requires.short.short)) c.requires.room v o

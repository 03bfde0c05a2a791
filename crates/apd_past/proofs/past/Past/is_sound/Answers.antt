use Rattle.std.proofs.Common.{subst}
use Rattle.apd_past.specs.History.{IsRightHistory}
use Rattle.apd_past.proofs.Moments.{sound_at}
use Rattle.apd_past.proofs.past.Past.is_sound.Goals as goal

pub returns-clause-moments : goal.returns-clause-moments
returns-clause-moments c = λ m. sound_at c.args.self.now m (subst IsRightHistory c.self.view_is c.self.invariant)

pub returns-clause-present : goal.returns-clause-present
returns-clause-present c = sound_at c.args.self.now c.args.self.now.moments (subst IsRightHistory c.self.view_is c.self.invariant)

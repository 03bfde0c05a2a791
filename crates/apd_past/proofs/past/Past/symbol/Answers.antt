use Rattle.std.proofs.Common.{subst}
use Rattle.apd_past.specs.History.{IsRightHistory}
use Rattle.apd_past.proofs.Moments.{sound_at}
use Rattle.apd_past.proofs.past.Past.symbol.Goals as goal

pub returns-clause-store : goal.returns-clause-store
returns-clause-store c = λ m. sound_at c.args.self.now m (subst IsRightHistory c.self.view_is c.self.invariant)

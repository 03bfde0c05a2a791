use Rattle.std.proofs.Common.{length, ◌-◌}
use Rattle.apd_claims.proofs.Commas.{Going}
use Rattle.apd_claims.proofs.entries.goals_in.Given as goal

abbrev pub invariant-commas : goal.invariant-commas
invariant-commas l = Going l.body l.symbols l.goals l.at

abbrev pub decreases-commas : goal.decreases-commas
decreases-commas l = length l.symbols - l.at

use Rattle.std.proofs.Common.{drop}
use Rattle.std.specs.List.{AllByRecursion}
use Rattle.apd_claims.specs.Parting.{IsOld}
use Rattle.apd_claims.proofs.parting.are_old.Given as goal

abbrev pub invariant-symbols : goal.invariant-symbols
invariant-symbols l = AllByRecursion (IsOld l.count) (drop l.i l.symbols) → AllByRecursion (IsOld l.count) l.symbols

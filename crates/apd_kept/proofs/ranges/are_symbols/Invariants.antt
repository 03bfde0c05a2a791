use Rattle.std.proofs.Common.{drop}
use Rattle.std.specs.List.{AllByRecursion}
use Rattle.apd_kept.specs.Ranges.{IsSymbol}
use Rattle.apd_kept.proofs.ranges.are_symbols.Given as goal

abbrev pub invariant-symbols : goal.invariant-symbols
invariant-symbols l = AllByRecursion IsSymbol (drop l.i l.symbols) → AllByRecursion IsSymbol l.symbols

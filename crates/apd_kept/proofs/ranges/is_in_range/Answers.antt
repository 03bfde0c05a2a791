use Rattle.std.proofs.Common.{subst}
use Rattle.std.specs.List.{AllByRecursion}
use Rattle.apd_kept.specs.Ranges.{IsSymbol}
use Rattle.apd_kept.proofs.Spelled.{in_range}
use Rattle.apd_kept.proofs.ranges.is_in_range.Goals as goal

pub returns : goal.returns
returns c = in_range c.args.term.now (subst (AllByRecursion IsSymbol) c.symbols.ensures c.are_symbols.ensures)

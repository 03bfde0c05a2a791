use Rattle.std.proofs.Common.{take}
use Rattle.std.specs.List.{flat_map}
use Rattle.apd_term.specs.Spelling.{variable_in}
use Rattle.apd_resolved.specs.Noticed.{Sees}
use Rattle.apd_resolved.proofs.reaching.see_written.Given as goal

abbrev pub invariant-loop-symbol : goal.invariant-loop-symbol
invariant-loop-symbol l = Sees l.fn.seen l.seen (flat_map variable_in (take l.symbol-index l.symbols))

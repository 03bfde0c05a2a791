use Rattle.apd_index.proofs.Passing.{IsWalk}
use Rattle.apd_index.proofs.positions.positions_of.Given as goal

abbrev pub invariant-symbols : goal.invariant-symbols
invariant-symbols l = IsWalk l.term l.symbol-items l.symbol-index l.parents.items l.positions.items

use Rattle.apd_marks.proofs.Walking.{IsWalk}
use Rattle.apd_marks.proofs.positions.marks_of.Given as goal

abbrev pub invariant-symbols : goal.invariant-symbols
invariant-symbols l = IsWalk l.term l.symbol-items l.symbol-index l.parents.items l.marks.items

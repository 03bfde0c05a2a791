use Rattle.apd_divide.proofs.Spanning.{Spans}
use Rattle.apd_divide.proofs.spans.sizes_at.Given as goal

abbrev pub invariant-children : goal.invariant-children
invariant-children l = Spans l.rows l.at l.end l._child l.below

use Rattle.std.proofs.Common.{◌≤◌, ◌∷◌, [], length}
use Rattle.apd_cells.specs.Work.{runs_symbols}
use Rattle.apd_resolved.specs.Counting.{PassesFront}
use Rattle.apd_resolved.proofs.quick.pass_front.Given as goal

abbrev pub invariant-parts : goal.invariant-parts
invariant-parts l = record {
  front : PassesFront l.heap (l.fn.here ∷ []) l.extent (l.next ∷ []);
  within : l.extent.size ≤ l.limit;
  ahead : l.fn.here.at ≤ l.next.at;
}

abbrev pub decreases-parts : goal.decreases-parts
decreases-parts l = length (runs_symbols l.heap (l.next ∷ []))

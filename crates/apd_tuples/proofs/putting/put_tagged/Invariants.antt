use Rattle.std.proofs.Common.{◌≡◌, ◌∷◌, [], ◌+◌, ◌-◌, ◌++◌, ◌≤◌, length, take}
use Rattle.std.specs.Prelude.{vec_capacity, vec_len}
use Rattle.apd_tuples.specs.Cells.{kept_cells}
use Rattle.apd_tuples.proofs.putting.put_tagged.Given as goal

abbrev pub invariant-goals : goal.invariant-goals
invariant-goals l = record {
  put : l.there.items ≡ l.fn.there.items ++ l.fn.tag ∷ [] ++ kept_cells (take l.i l.goals);
  room : vec_len l.there + (length l.goals - l.i) ≤ vec_capacity l.there;
}

abbrev pub decreases-goals : goal.decreases-goals
decreases-goals l = length l.goals - l.i

use Rattle.std.proofs.Common.{◌≡◌, ◌≤◌, ◌-◌, length, vec_len}
use Rattle.apd_divide.specs.Rows.{nodes}
use Rattle.apd_divide.specs.Recorded.{tree}
use Rattle.apd_divide.proofs.Stacked.{Grows}
use Rattle.apd_divide.proofs.growing.grow_all.Given as goal

abbrev pub invariant-calls : goal.invariant-calls
invariant-calls l = record {
  grows : Grows l.recorded (tree l.recorded l.fn.exit.0 l.label) l.made.items l.pending.items;
  few : vec_len l.made ≤ 4294967295;
  len : vec_len l.made ≡ length l.made.items;
}

abbrev pub decreases-calls : goal.decreases-calls
decreases-calls l = nodes (tree l.recorded l.fn.exit.0 l.label) - length l.made.items

use Rattle.apd_index.specs.Columns.{AreRepeats}
use Rattle.apd_index.proofs.Unequal.{AreFirsts}
use Rattle.apd_index.proofs.repeats.repeats_of.Given as goal

abbrev pub invariant-symbols : goal.invariant-symbols
invariant-symbols l = record {
  firsts : AreFirsts l.firsts l.nodes l.atom;
  repeats : AreRepeats l.nodes l.atom l.repeats.items;
}

use Rattle.apd_loop.proofs.Marks.{AreSeen, AreSharedTo}
use Rattle.apd_loop.proofs.repeats.note_sizes.Given as goal

abbrev pub invariant-calls : goal.invariant-calls
invariant-calls l = record {
  seen : AreSeen l.seen.keys l.calls l.i;
  shared : AreSharedTo l.shared.keys l.calls l.i;
}

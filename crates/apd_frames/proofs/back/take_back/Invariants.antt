use Rattle.std.proofs.Common.{◌≡◌, length}
use Rattle.apd_frames.specs.Linked.{links_then, notes_then}
use Rattle.apd_frames.proofs.back.take_back.Given as goal

abbrev pub invariant-hands : goal.invariant-hands
invariant-hands l = record {
  links : links_then l.links l.notes ≡ links_then l.fn.links l.fn.notes;
  notes : notes_then l.notes ≡ notes_then l.fn.notes;
}

abbrev pub decreases-hands : goal.decreases-hands
decreases-hands l = length l.notes

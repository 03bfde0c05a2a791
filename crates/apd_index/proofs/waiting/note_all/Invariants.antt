use Rattle.apd_index.proofs.Waited.{AreSo}
use Rattle.apd_index.proofs.waiting.note_all.Given as goal

abbrev pub invariant-places : goal.invariant-places
invariant-places l = AreSo l.atoms l.places l.place-index l.fn.table l.table l.are_right

use Rattle.apd_frames.proofs.Instancing.{AreLoaded}
use Rattle.apd_frames.proofs.instance.load_all.Given as goal

abbrev pub invariant-terms : goal.invariant-terms
invariant-terms l = AreLoaded l.fn.store l.store 0 l.terms l.term-index l.cells.items

use Rattle.apd_skips.proofs.Skipping.{ArePassed}
use Rattle.apd_skips.proofs.skips.are_equal.Given as goal

abbrev pub invariant-terms : goal.invariant-terms
invariant-terms l = ArePassed l.symbols l.one l.other l._k l.i l.j

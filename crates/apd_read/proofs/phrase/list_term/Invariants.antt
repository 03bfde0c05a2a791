use Rattle.std.proofs.Common.{◌≡◌, take}
use Rattle.apd_read.proofs.Cells.{cells}
use Rattle.apd_read.proofs.phrase.list_term.Given as goal

abbrev pub invariant-terms : goal.invariant-terms
invariant-terms l = l.spelled ≡ cells (take l.t-index l.terms)

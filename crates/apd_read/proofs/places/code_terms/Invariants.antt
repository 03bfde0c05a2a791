use Rattle.std.proofs.Common.{◌≡◌, take}
use Rattle.apd_read.specs.Places.{code_terms}
use Rattle.apd_read.proofs.places.code_terms.Given as goal

abbrev pub invariant-codes : goal.invariant-codes
invariant-codes l = l.terms ≡ code_terms (take l.c-index l.codes)

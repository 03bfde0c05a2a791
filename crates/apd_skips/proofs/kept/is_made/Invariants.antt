use Rattle.std.proofs.Common.{length}
use Rattle.apd_term.proofs.Matched.{IsMatched}
use Rattle.apd_skips.specs.Skips.{AreWithin, placed}
use Rattle.apd_skips.proofs.kept.is_made.Given as goal

abbrev pub invariant-symbols : goal.invariant-symbols
invariant-symbols l = record {
  matched : IsMatched l.special l.general (placed l.symbols l.firsts) l.symbol-index l.at;
  within : AreWithin l.firsts (length l.symbols);
}

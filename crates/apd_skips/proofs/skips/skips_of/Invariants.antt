use Rattle.std.proofs.Common.{◌≡◌, length}
use Rattle.apd_skips.specs.Skips.{AreSkipsFrom}
use Rattle.apd_skips.proofs.skips.skips_of.Given as goal

abbrev pub invariant-symbols : goal.invariant-symbols
invariant-symbols l = record {
  same : length l.skips.items ≡ length l.symbols;
  right : AreSkipsFrom l.symbols l.skips.items l.at;
}

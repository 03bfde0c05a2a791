use Rattle.std.proofs.Common.{◌≡◌, ◌≤◌, ◌<◌, ◌^◌, take, true, false}
use Rattle.apd_token.specs.Quotes.{numeral}
use Rattle.apd_token.proofs.runs.numeral_of.Given as goal

abbrev pub invariant-digits : goal.invariant-digits
invariant-digits l = record {
  narrow : l.wide ≡ false → l.value ≡ numeral l.radix (take l.d-index l.digits);
  bound : l.value ≤ 2 ^ 63;
  wide : l.wide ≡ true → 2 ^ 63 < numeral l.radix (take l.d-index l.digits);
}

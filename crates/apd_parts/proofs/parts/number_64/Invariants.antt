use Rattle.std.proofs.Common.{◌≡◌, ◌<◌, ◌^◌, take, true}
use Rattle.std.specs.Str.Parse.{digits_value}
use Rattle.apd_parts.proofs.Numbers.{are_digits}
use Rattle.apd_parts.proofs.parts.number_64.Given as goal

abbrev pub invariant-digits : goal.invariant-digits
invariant-digits l = (are_digits (take l.i l.text) ≡ true) × (l.number ≡ digits_value 10 (take l.i l.text)) × (l.number < 2 ^ 64)

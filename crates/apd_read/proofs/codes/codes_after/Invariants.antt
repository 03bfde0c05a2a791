use Rattle.std.proofs.Common.{◌≡◌, ◌≤◌, ◌++◌, drop}
use Rattle.std.specs.Str.{chars_after}
use Rattle.apd_read.proofs.codes.codes_after.Given as goal

abbrev pub invariant-bytes : goal.invariant-bytes
invariant-bytes l = record {
  codes : l.codes ++ chars_after l.left l.code (drop l.b-index l.bytes) ≡ chars_after l.initial.left l.initial.code l.bytes;
  few : l.left ≤ 3;
  three : l.left ≡ 3 → l.code ≤ 1000;
  two : l.left ≡ 2 → l.code ≤ 100000;
  one : l.left ≡ 1 → l.code ≤ 10000000;
}

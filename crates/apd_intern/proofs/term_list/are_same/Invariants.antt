use Rattle.std.proofs.Common.{◌≡◌, take, length}
use Rattle.apd_intern.proofs.term_list.are_same.Given as goal

abbrev pub invariant-symbols : goal.invariant-symbols
invariant-symbols l =
    record {
      same : take l.k l.a ≡ take l.k l.b;
      long : length l.b ≡ length l.a;
    }

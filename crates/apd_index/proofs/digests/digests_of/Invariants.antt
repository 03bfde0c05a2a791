use Rattle.std.proofs.Common.{◌≡◌, reverse, map, drop}
use Rattle.apd_term.specs.Term.{read_all}
use Rattle.apd_index.specs.Subterms.{digest}
use Rattle.apd_index.proofs.Mixed.{begun}
use Rattle.apd_index.proofs.digests.digests_of.Given as goal

abbrev pub invariant-symbols : goal.invariant-symbols
invariant-symbols l = record {
  stack : reverse l.stack.items ≡ map digest (read_all (drop l.at l.symbols));
  begun : reverse l.digests.items ≡ begun (drop l.at l.symbols);
}

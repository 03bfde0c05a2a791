use Rattle.std.proofs.Common.{◌≡◌, ◌++◌, take}
use Rattle.apd_by_definition.proofs.clauses.append.Given as goal

abbrev pub invariant-more : goal.invariant-more
invariant-more l = l.terms ≡ l.fn.terms ++ take l.term-index l.more

use Rattle.std.proofs.Common.{drop, ◌++◌}
use Rattle.apd_term.specs.Term.{term_of}
use Rattle.apd_write.specs.Writing.{written}
use Rattle.apd_write.proofs.Standing.{Standing}
use Rattle.apd_write.proofs.terms.write_all.Given as goal

abbrev pub invariant-symbols : goal.invariant-symbols
invariant-symbols l = Standing l.ops l.names (l.fn.out ++ written l.ops l.names (term_of l.symbols) l.max) l.frames.items l.out l.place (drop l.symbol-index l.symbols)

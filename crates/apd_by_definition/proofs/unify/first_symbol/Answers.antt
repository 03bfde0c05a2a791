use Rattle.std.proofs.Common.{ap, arith, length}
use Rattle.apd_term.proofs.Spelling.{length-spell, size_positive}
use Rattle.apd_by_definition.proofs.unify.first_symbol.Goals as goal

pub bounds-symbols-0 : goal.bounds-symbols-0
bounds-symbols-0 c = omega (arith, ap length c.symbols.ensures, length-spell c.args.t.now, size_positive c.args.t.now)

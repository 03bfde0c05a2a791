use Rattle.std.proofs.Common.{get_or}
use Rattle.apd_term.specs.declared.term.Sym.TheVariants.{Var}
use Rattle.apd_past.proofs.Leading.{Followed}
use Rattle.apd_cells.proofs.Following.{rank}
use Rattle.apd_past.proofs.then.Then.follow.Given as goal

abbrev pub invariant-bindings : goal.invariant-bindings
invariant-bindings l = Followed l.self l.from l.at

abbrev pub decreases-bindings : goal.decreases-bindings
decreases-bindings l = rank (get_or l.self.cells l.at (Var 0))

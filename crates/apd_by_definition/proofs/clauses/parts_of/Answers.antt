use Rattle.std.proofs.Common.{arith}
use Rattle.apd_by_definition.proofs.Recursion.{smaller}
use Rattle.apd_by_definition.proofs.clauses.parts_of.Goals as goal

pub goals_of-requires : goal.goals_of-requires
goals_of-requires c = omega (arith, smaller c.args.term.now 1 c.in_ok-sides.sides.right c.in_ok-sides.ensures.right)

use Rattle.std.proofs.Common.{◌∙◌}
use Rattle.apd_term.specs.declared.term.Sym.TheVariants.{Fun}
use Rattle.apd_tuples.proofs.Predicates.{predicate-by}
use Rattle.apd_tuples.proofs.tuples.pred_of.Goals as goal

pub returns-in-Fun : goal.returns-in-Fun
returns-in-Fun c t e = predicate-by t (Fun c.in-Fun.name c.in-Fun.arity) (e ∙ c.in-Fun.is)

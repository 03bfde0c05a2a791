use Rattle.apd_cells.proofs.Keeping.{at_mark-at_mark, Keeps-trans}
use Rattle.apd_unify.proofs.laws.marks_nest.Goals as goal

pub returns-clause-twice : goal.returns-clause-twice
returns-clause-twice c = at_mark-at_mark

pub returns-clause-kept : goal.returns-clause-kept
returns-clause-kept c = Keeps-trans

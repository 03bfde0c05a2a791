use Rattle.apd_read.proofs.Indexed.{indexed_none}
use Rattle.apd_read.proofs.variables.Variables.new.Goals as goal

pub returns-clause-indexed : goal.returns-clause-indexed
returns-clause-indexed c = rw (c.new.ensures, c.new-2.ensures, c.new-3.ensures.items) indexed_none

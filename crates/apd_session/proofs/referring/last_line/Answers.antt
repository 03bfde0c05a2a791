use Rattle.std.proofs.Common.{◌≡◌, Some, subst}
use Rattle.apd_clauses.specs.Clauses.{clause_at}
use Rattle.apd_session.proofs.Refereeing.{last_is}
use Rattle.apd_session.proofs.referring.last_line.Goals as goal

pub returns : goal.returns
returns c = last_is c.args.program.now c.clause.result.now (subst (λ n. clause_at c.args.program.now n ≡ Some c.clause.result.now) c.count.ensures.count c.clause.ensures)

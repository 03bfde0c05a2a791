use Rattle.apd_by_hand.proofs.Replaying.{clause_at-tuple}
use Rattle.apd_by_hand.proofs.clauses.number_of.Goals as goal

pub returns-then-fits : goal.returns-then-fits
returns-then-fits c =
    let clause = c.clause-clause.result.now in
    (clause.tuple, clause_at-tuple c.args.program.now _ clause c.clause-clause.ensures, c.in_ok-fits.ensures c.if-fits.true)

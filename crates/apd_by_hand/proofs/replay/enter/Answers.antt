use Rattle.apd_clauses.specs.Clauses.{tuples_of}
use Rattle.apd_by_hand.proofs.replay.enter.Goals as goal

pub returns-clause-sound : goal.returns-clause-sound
returns-clause-sound c =
    let P = tuples_of c.args.program.now in
    c.put.ensures.sound P c.in_ok-point.ensures.clause (c.in_ok-call.ensures.sound P c.requires.sound)

use Rattle.apd_clauses.specs.Clauses.{tuples_of}
use Rattle.apd_recorded.proofs.Recording.{program_clauses}
use Rattle.apd_reference.proofs.Fitting.{replies_fit}
use Rattle.apd_reference.proofs.NamedReplies.{replies_named}
use Rattle.apd_reference.proofs.reference.ReferenceReplier.reply.Goals as goal

pub returns-clause-fits : goal.returns-clause-fits
returns-clause-fits c =
    let all = program_clauses c.self.inside.program c.count-count.ensures.program in
    rw (← c.self.view_is) (replies_fit (tuples_of c.self.inside.program) c.self.inside.budget all c.self.invariant.some)

pub returns-clause-named : goal.returns-clause-named
returns-clause-named c =
    let all = program_clauses c.self.inside.program c.count-count.ensures.program in
    rw (← c.self.view_is)
    (replies_named (tuples_of c.self.inside.program) c.self.inside.budget all (replies_fit (tuples_of c.self.inside.program) c.self.inside.budget all c.self.invariant.some))
